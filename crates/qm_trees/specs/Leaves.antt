-- A leaf of a policy: values of the continuous variables, which meet the rows at the worst ends of the universal ranges.
use Rattle.std.specs.Prelude.{◌-◌, ℤ, Bool, true, false, ◌&&◌, List, [], ◌∷◌, All, Ok, nat_lt, slice_index_or, if◌then◌else◌}
use Rattle.qm_math.specs.Fraction.{Fraction, HasPositiveDen, whole, IsAtMost, is_at_most}
use Rattle.qm_math.specs.Arithmetic.{sum_of, product_of, quotient_of}
use Rattle.qm_math.specs.Totals.{total_of}
use Rattle.qm_frac.specs.Checked.{Checked, added, multiplied, divided}
use Rattle.qm_model.specs.declared.row.Row.{Row}
use Rattle.qm_model.specs.declared.row.Term.{Term}
use Rattle.qm_model.specs.declared.range.Range.{Range}
use Rattle.qm_model.specs.declared.variable.Var.{Var}
use Rattle.qm_model.specs.declared.game.Problem.{Problem}
use Rattle.qm_model.specs.Points.{continuous_vars}
use Rattle.qm_trees.specs.Evaluation.{zero, least_end_by, greatest_end_by, ◌>>=◌}
use Rattle.qm_model.specs.Ranges.{range_at}

-- the value of a term's variable: an end of its range by the coefficient for a whole one, its own for a continuous one
abbrev pub value_at : (ℤ → Range → ℤ) → Problem → List Range → List Fraction → Term → Fraction
value_at end_by P bx point t = if nat_lt t.var P.wholes then whole (end_by t.coef (range_at bx t.var)) else slice_index_or point (t.var - P.wholes) zero

-- each value is a number within its variable's own bounds
abbrev pub AreInBounds : List Var → List Fraction → Type 0
AreInBounds [] [] = Unit {0}
AreInBounds [] (y ∷ ys) = ⊥
AreInBounds (x ∷ xs) [] = ⊥
AreInBounds (x ∷ xs) (y ∷ ys) = HasPositiveDen y × IsAtMost (whole x.low) y × IsAtMost y (whole x.high) × AreInBounds xs ys

-- ---- exactly

-- what the terms come to
abbrev pub sum_at : (Term → Fraction) → List Term → Fraction
sum_at value ts = total_of (λ t. product_of (whole t.coef) (value t)) ts

-- the row holds at the ends that make its sum greatest
abbrev pub HoldsAtWorst : Problem → List Range → List Fraction → Row → Type 0
HoldsAtWorst P bx point row = IsAtMost (sum_at (value_at greatest_end_by P bx point) row.terms) (whole row.right)

-- the objective at the ends that make it least
abbrev pub least_objective : Problem → List Range → List Fraction → Fraction
least_objective P bx point = quotient_of (sum_of (sum_at (value_at least_end_by P bx point) P.terms) (whole P.constant)) (whole P.scale)

-- the values are in bounds, each row holds, and the objective is at least v
pub record IsRightLeaf (P : Problem) (v : Fraction) (bx : List Range) (point : List Fraction) : Type 0 where
  pub bounds : AreInBounds (continuous_vars P) point
  pub rows : All (HoldsAtWorst P bx point) P.rows
  pub reaches : IsAtMost v (least_objective P bx point)

-- ---- operation by operation

-- to the sum so far, each coefficient times its value is added in order
abbrev pub add_terms : (Term → Fraction) → List Term → Fraction → Checked Fraction
add_terms value [] s = Ok s
add_terms value (t ∷ ts) s = multiplied (whole t.coef) (value t) >>= λ p. added s p >>= λ r. add_terms value ts r

-- what a row comes to, at the ends that make it greatest
abbrev pub row_sum : Problem → List Range → List Fraction → Row → Checked Fraction
row_sum P bx point row = add_terms (value_at greatest_end_by P bx point) row.terms zero

-- what the objective comes to, at the ends that make it least
abbrev pub leaf_objective : Problem → List Range → List Fraction → Checked Fraction
leaf_objective P bx point =
    add_terms (value_at least_end_by P bx point) P.terms zero >>= λ s. added s (whole P.constant) >>= λ k. divided k (whole P.scale)

abbrev pub row_holds : Problem → List Range → List Fraction → Row → Checked Bool
row_holds P bx point row = row_sum P bx point row >>= λ s. Ok (is_at_most s (whole row.right))

-- row by row: one that fails ends it
abbrev pub rows_hold : Problem → List Range → List Fraction → List Row → Checked Bool
rows_hold P bx point [] = Ok true
rows_hold P bx point (row ∷ rows) = row_holds P bx point row >>= λ holds. if holds then rows_hold P bx point rows else Ok false

abbrev pub objective_reaches : Problem → Fraction → List Range → List Fraction → Checked Bool
objective_reaches P v bx point =
    add_terms (value_at least_end_by P bx point) P.terms zero >>= λ s. added s (whole P.constant) >>= λ k. divided k (whole P.scale) >>= λ w. Ok (is_at_most v w)

abbrev pub are_in_bounds : List Var → List Fraction → Bool
are_in_bounds [] [] = true
are_in_bounds [] (y ∷ ys) = false
are_in_bounds (x ∷ xs) [] = false
are_in_bounds (x ∷ xs) (y ∷ ys) = nat_lt 0 y.den && is_at_most (whole x.low) y && is_at_most y (whole x.high) && are_in_bounds xs ys

-- all bounds come first, then the rows, then the objective
unfoldable pub leaf_passes : Problem → Fraction → List Range → List Fraction → Checked Bool
leaf_passes P v bx point =
    if are_in_bounds (continuous_vars P) point then (rows_hold P bx point P.rows >>= λ hold. if hold then objective_reaches P v bx point else Ok false)
    else Ok false
