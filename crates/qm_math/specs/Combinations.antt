-- Rows of fractions, their values, and combinations of rows.
use Rattle.std.specs.Prelude.{List}
use Rattle.qm_math.specs.Fraction.{Fraction}
use Rattle.qm_math.specs.Arithmetic.{product_of}
use Rattle.qm_math.specs.Totals.{total_of}

-- the value of a row at x: the number in each column times the column's x, added up
abbrev pub dot_product : {C : Type 0} → List C → (C → Fraction) → (C → Fraction) → Fraction
dot_product columns k x = total_of (λ c. product_of (k c) (x c)) columns

-- the combined row: in each column the numbers of the rows there, each times the row's y, added up
abbrev pub combined_row : {R C : Type 0} → List R → (R → Fraction) → (R → C → Fraction) → C → Fraction
combined_row rows y a c = total_of (λ r. product_of (y r) (a r c)) rows
