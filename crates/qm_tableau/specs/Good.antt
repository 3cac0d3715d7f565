-- Good tableaus of a game, cuts and a box.
use Rattle.std.specs.Prelude.{◌≡◌, ◌≢◌, ℕ, suc, ◌<◌, ℤ, pos, List, [], ◌∷◌, All, map, length, slice_index_or}
use Rattle.std.specs.List.{AllZip}
use Rattle.qm_math.specs.Fraction.{Fraction, HasPositiveDen, IsSame, whole}
use Rattle.qm_math.specs.Arithmetic.{product_of, sum_of}
use Rattle.qm_math.specs.Lexicographic.{IsLexNegative}
use Rattle.qm_model.specs.declared.range.Range.{Range}
use Rattle.qm_model.specs.declared.row.Row.{Row}
use Rattle.qm_model.specs.declared.game.Problem.{Problem}
use Rattle.qm_tableau.specs.Tables.{Table, entry_of, row_at}
use Rattle.qm_tableau.specs.Quantities.{Quantity, coefficient_in, quantities}
use Rattle.qm_tableau.specs.Columns.{affine_value, column_at}

-- a value for each variable
pub record IsPoint (bx : List Range) (point : List Fraction) : Type 0 where
  pub count : length point ≡ length bx
  pub positive : All HasPositiveDen point

-- these coefficients times the values of the variables from `var` on
abbrev pub linear_value : (ℕ → ℤ) → ℕ → List Fraction → Fraction
linear_value coefficient_of var [] = whole (pos 0)
linear_value coefficient_of var (x ∷ xs) = sum_of (product_of (whole (coefficient_of var)) x) (linear_value coefficient_of (suc var) xs)

-- what the quantity comes to at a point
abbrev pub quantity_value : List Fraction → Quantity → Fraction
quantity_value point q = sum_of (whole q.constant) (linear_value (coefficient_in q) 0 point)

-- what all quantities come to at a point, row by row
abbrev pub values_at : Problem → List Row → List Range → List Fraction → List Fraction
values_at P cuts bx point = map (quantity_value point) (quantities P cuts bx)

-- of these, those of the quantities that the columns belong to
abbrev pub column_values : List ℕ → List Fraction → List Fraction
column_values columns values = map (entry_of values) columns

-- with these values of the columns' quantities, the rows come to the values behind them
abbrev pub ComeTo : List (List Fraction) → List Fraction → List Fraction → Type 0
ComeTo rows inputs values = AllZip (λ row value. IsSame (affine_value row inputs) value) rows values

-- 1 in column k and 0 in the others
pub record IsUnitRow (k : ℕ) (row : List Fraction) : Type 0 where
  pub one : IsSame (entry_of row k) (whole (pos 1))
  pub zeros : (j : ℕ) → j < length row → j ≢ k → IsSame (entry_of row j) (whole (pos 0))

-- At each point each row is its quantity as a function of the columns' quantities, and any values of these are those at
-- some point. The row of each column's own quantity is a unit row, and each column from 1 on is lexicographically negative.
pub record IsGood (P : Problem) (cuts : List Row) (bx : List Range) (t : Table) : Type 0 where
  pub count : length t.columns ≡ length bx
  pub height : length t.rows ≡ length (quantities P cuts bx)
  pub width : All (λ row. length row ≡ suc (length t.columns)) t.rows
  pub positive : All (λ row. All HasPositiveDen row) t.rows
  pub named : All (λ row. row < length t.rows) t.columns
  pub functions : (point : List Fraction) → IsPoint bx point → ComeTo t.rows (column_values t.columns (values_at P cuts bx point)) (values_at P cuts bx point)
  pub taken : (inputs : List Fraction) → length inputs ≡ length t.columns → All HasPositiveDen inputs
      → (point : List Fraction) × IsPoint bx point × ComeTo t.rows inputs (values_at P cuts bx point)
  pub units : (k : ℕ) → k < length t.columns → IsUnitRow (suc k) (row_at t.rows (slice_index_or t.columns k 0))
  pub negative : (k : ℕ) → k < length t.columns → IsLexNegative (column_at t.rows (suc k))
