-- A right policy is right at each value that is no greater, and no operation leaves there that doesn't at the value.
use Rattle.std.proofs.Common.{ℕ, ◌+◌, ◌<◌, List, [], ◌∷◌, get_or, Bool, refl, Ok, Err}
use Rattle.std.specs.Prelude.{slice_set, IsOk}
use Rattle.qm_math.specs.Fraction.{Fraction, whole, IsAtMost, is_at_most}
use Rattle.qm_math.proofs.Compare.{at_most_trans}
use Rattle.qm_frac.specs.Checked.{Checked, and_then, added, divided}
use Rattle.qm_model.specs.declared.range.Range.{Range}
use Rattle.qm_model.specs.declared.variable.Var.{Var}
use Rattle.qm_model.specs.declared.game.Problem.{Problem}
use Rattle.qm_trees.specs.declared.policy.Policy.{Policy, out-Policy}
use Rattle.qm_trees.specs.declared.policy.Below.TheOpen as node
use Rattle.qm_model.specs.Ranges.{single}
use Rattle.qm_trees.specs.PolicyJudgement.{Layer, BelowLayer, range_of, below_of}
use Rattle.qm_trees.specs.PolicyRight.{IsRightBelow, IsRightEnd, IsRightMove, IsRightPolicy, IsBelowInRange, IsEndInRange, IsMoveInRange, IsPolicyInRange}
use Rattle.qm_trees.specs.Evaluation.{zero, least_end_by}
use Rattle.qm_trees.specs.Leaves.{add_terms, value_at, least_objective}

module _ (P : Problem) (v w : Fraction) (positive : 0 < v.den) (less : IsAtMost w v) where
  end_at_less : (bx : List Range) (layer : Layer) → IsRightEnd P v bx layer → IsRightEnd P w bx layer
  end_at_less bx (node.Leaf point) right = (
    right.0,
    record {
      bounds = right.1.bounds;
      rows = right.1.rows;
      reaches = at_most_trans w v (least_objective P bx point) positive less right.1.reaches;
    },
  )
  end_at_less bx (node.Choose value below) right = absurd right
  end_at_less bx (node.Answer parts) right = absurd right

  below_at_less : (IsRight IsRightToo : List Range → Policy → Type 0) → ((bx : List Range) (policy : Policy) → IsRight bx policy → IsRightToo bx policy)
      → (bx : List Range) (layer : BelowLayer) → IsRightBelow P IsRight bx layer → IsRightBelow P IsRightToo bx layer
  below_at_less IsRight IsRightToo below bx (node.On policy) right = below bx policy right
  below_at_less IsRight IsRightToo below bx (node.Illegal tree) right = right

  move_at_less : (x : Var) (depth : ℕ) (IsRight IsRightToo : List Range → Policy → Type 0) → ((bx : List Range) (policy : Policy) → IsRight bx policy → IsRightToo bx policy)
      → (bx : List Range) (layer : Layer) → IsRightMove P x depth IsRight bx layer → IsRightMove P x depth IsRightToo bx layer
  move_at_less x depth IsRight IsRightToo below bx (node.Leaf point) right = absurd right
  move_at_less x depth IsRight IsRightToo below bx (node.Choose value policy) right = (right.0, right.1, below (slice_set bx depth (single value)) policy right.2)
  move_at_less x depth IsRight IsRightToo below bx (node.Answer parts) right =
      (right.0, right.1, λ k d h. below_at_less IsRight IsRightToo below (slice_set bx depth (range_of (get_or parts k d))) (below_of (get_or parts k d)) (right.2 k d h))

  pub right_at_less : (xs : List Var) (depth : ℕ) (bx : List Range) (policy : Policy) → IsRightPolicy P v xs depth bx policy → IsRightPolicy P w xs depth bx policy
  right_at_less [] depth bx policy right = end_at_less bx (out-Policy policy) right
  right_at_less (x ∷ xs) depth bx policy right =
      move_at_less x depth (IsRightPolicy P v xs (depth + 1)) (IsRightPolicy P w xs (depth + 1)) (right_at_less xs (depth + 1)) bx (out-Policy policy) right

-- ---- in range

third_ok : (x : Checked Fraction) (a b : Fraction → Bool) → IsOk (and_then x (λ w. Ok (a w))) → IsOk (and_then x (λ w. Ok (b w)))
third_ok (Ok w) a b h = refl
third_ok (Err leaves) a b h = h

second_ok : (x : Checked Fraction) (g : Fraction → Checked Fraction) (a b : Fraction → Bool) → IsOk (and_then x (λ k. and_then (g k) (λ w. Ok (a w)))) → IsOk (and_then x (λ k. and_then (g k) (λ w. Ok (b w))))
second_ok (Ok k) g a b h = third_ok (g k) a b h
second_ok (Err leaves) g a b h = h

first_ok : (x : Checked Fraction) (f g : Fraction → Checked Fraction) (a b : Fraction → Bool)
    → IsOk (and_then x (λ s. and_then (f s) (λ k. and_then (g k) (λ w. Ok (a w))))) → IsOk (and_then x (λ s. and_then (f s) (λ k. and_then (g k) (λ w. Ok (b w)))))
first_ok (Ok s) f g a b h = second_ok (f s) g a b h
first_ok (Err leaves) f g a b h = h

module _ (P : Problem) (v w : Fraction) where
  end_range_at : (bx : List Range) (layer : Layer) → IsEndInRange P v bx layer → IsEndInRange P w bx layer
  end_range_at bx (node.Leaf point) range = (
    range.0,
    first_ok (add_terms (value_at least_end_by P bx point) P.terms zero) (λ s. added s (whole P.constant)) (λ k. divided k (whole P.scale)) (λ u. is_at_most v u) (λ u. is_at_most w u) range.1,
  )
  end_range_at bx (node.Choose value below) range = tt
  end_range_at bx (node.Answer parts) range = tt

  below_range_at : (IsInRange IsInRangeToo : List Range → Policy → Type 0) → ((bx : List Range) (policy : Policy) → IsInRange bx policy → IsInRangeToo bx policy)
      → (bx : List Range) (layer : BelowLayer) → IsBelowInRange P IsInRange bx layer → IsBelowInRange P IsInRangeToo bx layer
  below_range_at IsInRange IsInRangeToo below bx (node.On policy) range = below bx policy range
  below_range_at IsInRange IsInRangeToo below bx (node.Illegal tree) range = range

  move_range_at : (depth : ℕ) (IsInRange IsInRangeToo : List Range → Policy → Type 0) → ((bx : List Range) (policy : Policy) → IsInRange bx policy → IsInRangeToo bx policy)
      → (bx : List Range) (layer : Layer) → IsMoveInRange P depth IsInRange bx layer → IsMoveInRange P depth IsInRangeToo bx layer
  move_range_at depth IsInRange IsInRangeToo below bx (node.Leaf point) range = tt
  move_range_at depth IsInRange IsInRangeToo below bx (node.Choose value policy) range = below (slice_set bx depth (single value)) policy range
  move_range_at depth IsInRange IsInRangeToo below bx (node.Answer parts) range =
      λ k d h. below_range_at IsInRange IsInRangeToo below (slice_set bx depth (range_of (get_or parts k d))) (below_of (get_or parts k d)) (range k d h)

  -- whether operations leave doesn't depend on the value
  pub in_range_at : (xs : List Var) (depth : ℕ) (bx : List Range) (policy : Policy) → IsPolicyInRange P v xs depth bx policy → IsPolicyInRange P w xs depth bx policy
  in_range_at [] depth bx policy range = end_range_at bx (out-Policy policy) range
  in_range_at (x ∷ xs) depth bx policy range =
      move_range_at depth (IsPolicyInRange P v xs (depth + 1)) (IsPolicyInRange P w xs (depth + 1)) (in_range_at xs (depth + 1)) bx (out-Policy policy) range
