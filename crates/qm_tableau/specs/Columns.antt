-- The columns of a tableau.
use Rattle.std.specs.Prelude.{ℕ, pos, List, [], ◌∷◌, map}
use Rattle.qm_math.specs.Fraction.{Fraction, whole}
use Rattle.qm_math.specs.Pivots.{row_value}
use Rattle.qm_tableau.specs.Tables.{entry_of}

-- the numbers in column k, row by row
abbrev pub column_at : List (List Fraction) → ℕ → List Fraction
column_at rows k = map (λ row. entry_of row k) rows

-- what a row comes to where the quantities of the columns from 1 on have these values
abbrev pub affine_value : List Fraction → List Fraction → Fraction
affine_value [] values = whole (pos 0)
affine_value (t ∷ ts) values = row_value t ts values
