-- The first tableau of a game, cuts and a box.
use Rattle.std.specs.Prelude.{ℕ, suc, ◌+◌, ◌*◌, ◌^◌, ◌<◌, ◌≤◌, ℤ, pos, Bool, List, [], ◌∷◌, map, length, if◌then◌else◌, int_lt, unsigned_abs}
use Rattle.qm_math.specs.Fraction.{Fraction, whole}
use Rattle.qm_model.specs.declared.range.Range.{Range}
use Rattle.qm_model.specs.declared.row.Term.{Term}
use Rattle.qm_model.specs.declared.row.Row.{Row}
use Rattle.qm_model.specs.declared.game.Problem.{Problem}
use Rattle.qm_model.specs.Linear.{IsOrdered, HasVarsBelow, coefficient}
use Rattle.qm_model.specs.Sizes.{reach_in_values, terms_size}
use Rattle.qm_tableau.specs.Tables.{Table}
use Rattle.qm_tableau.specs.Quantities.{Quantity, coefficient_in, whole_value, turned, quantities}

-- for each of the ranges, of variables from `var` on: whether the variable raises the objective
abbrev pub raises : List Term → ℕ → List Range → List Bool
raises objective var [] = []
raises objective var (r ∷ rs) = int_lt (pos 0) (coefficient objective var) ∷ raises objective (suc var) rs

-- the corner of the box: the high ends of the variables that raise the objective, the low ends of the others
abbrev pub corner : List Bool → List Range → List ℤ
corner [] rs = []
corner (high ∷ highs) [] = []
corner (high ∷ highs) (r ∷ rs) = (let end : ℤ = if high then r.high else r.low in end) ∷ corner highs rs

-- the row that a column belongs to: that of high - x where the variable raises the objective, else that of x - low
abbrev pub columns_from : ℕ → List Bool → List ℕ
columns_from var [] = []
columns_from var (high ∷ highs) = (let row : ℕ = if high then 2 * var + 1 else 2 * var + 2 in row) ∷ columns_from (suc var) highs

-- a row's number in each variable's column: the variable's coefficient, negated where the column is that of high - x
abbrev pub numbers_from : (ℕ → ℤ) → ℕ → List Bool → List Fraction
numbers_from coefficient_of var [] = []
numbers_from coefficient_of var (high ∷ highs) =
    whole (turned high (coefficient_of var)) ∷ numbers_from coefficient_of (suc var) highs

-- a row: what the quantity comes to at the corner, and its numbers
abbrev pub first_row : List Bool → List ℤ → Quantity → List Fraction
first_row highs values q = whole (whole_value q values) ∷ numbers_from (coefficient_in q) 0 highs

abbrev pub table_at : Problem → List Row → List Range → List Bool → Table
table_at P cuts bx highs = record {
  columns = columns_from 0 highs;
  rows = map (first_row highs (corner highs bx)) (quantities P cuts bx);
}

abbrev pub first_table : Problem → List Row → List Range → Table
first_table P cuts bx = table_at P cuts bx (raises P.terms 0 bx)

-- the quantity's terms are in order, and what it comes to at these values and its coefficients are not too large
pub record HasRoom (values : List ℤ) (constant : ℤ) (ts : List Term) : Type 0 where
  pub ordered : IsOrdered ts
  pub vars : HasVarsBelow (length values) ts
  pub size : unsigned_abs constant + terms_size (reach_in_values values) ts ≤ 2 ^ 126
  pub coefficients : (var : ℕ) → unsigned_abs (coefficient ts var) < 2 ^ 127
