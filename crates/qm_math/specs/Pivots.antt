-- Rows that give a quantity as a constant and a number times each unknown, and the row after a pivot.
use Rattle.std.specs.Prelude.{ℕ, List, slice_set}
use Rattle.qm_math.specs.Fraction.{Fraction}
use Rattle.qm_math.specs.Arithmetic.{sum_of, difference_of, product_of}
use Rattle.qm_math.specs.Totals.{sum_of_products, reduced_row}

-- constant + the numbers of the row times the values of the unknowns
abbrev pub row_value : Fraction → List Fraction → List Fraction → Fraction
row_value constant ks values = sum_of constant (sum_of_products ks values)

-- The row once the unknown in column c gave its place to the quantity of the pivot row: factor times the
-- pivot row is taken away, and the column has the factor.
abbrev pub pivoted_row : List Fraction → Fraction → List Fraction → ℕ → List Fraction
pivoted_row ks factor others c = slice_set (reduced_row ks factor others) c factor

-- its constant
abbrev pub pivoted_constant : Fraction → Fraction → Fraction → Fraction
pivoted_constant constant factor other = difference_of constant (product_of factor other)

-- A row's number in a column after the pivot: t less p g r, where t and p are the row's numbers in the column and in
-- the pivot column, r is the pivot row's in the column, and g is 1 over the pivot row's in the pivot column.
abbrev pub pivoted_number : Fraction → Fraction → Fraction → Fraction → Fraction
pivoted_number t p g r = difference_of t (product_of (product_of p g) r)
