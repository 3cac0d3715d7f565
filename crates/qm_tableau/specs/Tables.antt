-- Tableaus as contracts see them: rows of fractions, and what their columns stand for.
use Rattle.std.specs.Prelude.{ℕ, zero, suc, pos, List, [], ◌∷◌, take, drop, slice_index_or}
use Rattle.qm_math.specs.Fraction.{Fraction, whole}

-- rows that each have `width` numbers
pub record Numbers : Type 0 where
  pub width : ℕ
  pub rows : List (List Fraction)

-- Row 0 belongs to the objective and column 0 to the constants. `columns` says for each column from 1 on of which
-- row's quantity it is the column.
pub record Table : Type 0 where
  pub columns : List ℕ
  pub rows : List (List Fraction)

-- a list cut into n rows of w items
abbrev pub rows_of : {A : Type 0} → ℕ → ℕ → List A → List (List A)
rows_of w zero xs = []
rows_of w (suc n) xs = take w xs ∷ rows_of w n (drop w xs)

-- the row i
abbrev pub row_at : List (List Fraction) → ℕ → List Fraction
row_at rows i = slice_index_or rows i []

-- the number in column k
abbrev pub entry_of : List Fraction → ℕ → Fraction
entry_of row k = slice_index_or row k (whole (pos 0))

-- the entry in row i and column k
abbrev pub entry_at : List (List Fraction) → ℕ → ℕ → Fraction
entry_at rows i k = entry_of (row_at rows i) k
