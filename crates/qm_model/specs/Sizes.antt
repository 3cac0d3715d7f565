-- How large the numbers of a row can get.
use Rattle.std.specs.Prelude.{ℕ, ◌+◌, ◌*◌, ℤ, unsigned_abs, List, sum_by, slice_get}
use Rattle.std.specs.Option.{option_map_or}
use Rattle.qm_math.specs.Ranges.{reach}
use Rattle.qm_model.specs.declared.row.Term.{Term}
use Rattle.qm_model.specs.declared.row.Row.{Row}
use Rattle.qm_model.specs.declared.range.Range.{Range}
use Rattle.qm_model.specs.declared.variable.Var.{Var}

-- each coefficient's magnitude times how far its variable reaches, added up
abbrev pub terms_size : (ℕ → ℕ) → List Term → ℕ
terms_size reach_of ts = sum_by (λ t. unsigned_abs t.coef * reach_of t.var) ts

-- the size of a row: the magnitude of its right side, and the size of its terms
abbrev pub row_size : (ℕ → ℕ) → Row → ℕ
row_size reach_of row = unsigned_abs row.right + terms_size reach_of row.terms

-- how far the variable of a number reaches, by its part; 1 where there is none
abbrev pub reach_at : {A : Type 0} → (A → ℕ) → List A → ℕ → ℕ
reach_at bound parts var = option_map_or bound (slice_get parts var) 1

-- by the variables' own bounds
abbrev pub reach_in_vars : List Var → ℕ → ℕ
reach_in_vars xs = reach_at (λ (x : Var). reach x.low x.high) xs

-- by the ranges of a box
abbrev pub reach_in_box : List Range → ℕ → ℕ
reach_in_box bx = reach_at (λ (r : Range). reach r.low r.high) bx

-- by values of the variables
abbrev pub reach_in_values : List ℤ → ℕ → ℕ
reach_in_values values = reach_at unsigned_abs values
