-- A policy's lines are fine exactly where the policy is right and no operation leaves.
use Rattle.std.proofs.Common.{ℕ, ◌+◌, ◌<◌, true, List, [], ◌∷◌, length, get_or, ap, pos, ◌≤ℤ◌, Ok}
use Rattle.std.specs.Prelude.{◌&&◌, ◌==◌, slice_set, if◌then◌else◌}
use Rattle.std.proofs.lemmas.Bool.{and_from, and_parts}
use Rattle.qm_math.specs.Fraction.{Fraction}
use Rattle.qm_model.specs.declared.range.Range.{Range}
use Rattle.qm_model.specs.declared.variable.Var.{Var}
use Rattle.qm_model.specs.declared.game.Problem.{Problem}
use Rattle.qm_model.specs.Plays.{is_universal, whole_vars}
use Rattle.qm_model.specs.Points.{continuous_vars}
use Rattle.qm_model.proofs.Players.{exists_of, universal_of, not_universal, is_for_all}
use Rattle.qm_trees.specs.declared.rule.Rule.TheVariants as rule
use Rattle.qm_trees.specs.declared.policy.Policy.{Policy, out-Policy}
use Rattle.qm_trees.specs.declared.policy.Below.TheOpen as node
use Rattle.qm_trees.specs.declared.policy.PolicyPart.{PolicyPart}
use Rattle.qm_trees.specs.Verdicts.{Verdict, Fine, line, ◌then◌}
use Rattle.qm_model.specs.Ranges.{range_at, single, is_in}
use Rattle.qm_trees.specs.Ranges.{judge_parts}
use Rattle.qm_trees.specs.Fractions.{are_fracs}
use Rattle.qm_trees.specs.Leaves.{leaf_passes}
use Rattle.qm_trees.specs.EmptyJudgement.{judge_empty}
use Rattle.qm_trees.specs.PolicyJudgement.{Layer, BelowLayer, range_of, below_of, judge_below, judge_end, judge_move, judge_policy}
use Rattle.qm_trees.specs.PolicyRight.{IsRightBelow, IsRightEnd, IsRightMove, IsRightPolicy, IsBelowInRange, IsEndInRange, IsMoveInRange, IsPolicyInRange}
use Rattle.qm_trees.specs.Passing.{IsFine}
use Rattle.qm_trees.proofs.Lines.{fine_parts, fine_both, fine_line, line_fine, ok_is}
use Rattle.qm_trees.proofs.Moves.{fine_else, fine_then, else_fine, then_fine, between_of, in_of_between, same_count}
use Rattle.qm_trees.proofs.CoverLines.{fine_cover, cover_fine}
use Rattle.qm_trees.proofs.EmptyLines.{right_of_fine as empty_right_of_fine, fine_of_right as empty_fine_of_right}
use Rattle.qm_trees.proofs.LeafLines.{leaf_of_passes, leaf_passes_of, AreInBounds-length}
use Rattle.qm_trees.proofs.Multipliers.{fracs_say}

-- ---- leaves

module _ (P : Problem) (v : Fraction) (bx : List Range) (scale : pos 1 ≤ℤ P.scale) (positive : 0 < v.den) where
  right_end : (layer : Layer) → IsFine (judge_end P v bx layer) → IsRightEnd P v bx layer × IsEndInRange P v bx layer
  right_end (node.Leaf point) fine =
      let form = (length point == length (continuous_vars P)) && are_fracs point in
      let test = fine_then form rule.Text 0 (line rule.Leaf (leaf_passes P v bx point)) fine in
      let fracs = (fracs_say point).0 (and_parts (length point == length (continuous_vars P)) (are_fracs point) test.0).1 in
      let leaf = leaf_of_passes P v bx point scale positive (fine_line rule.Leaf (leaf_passes P v bx point) test.1) in
      ((fracs, leaf.0), leaf.1)
  right_end (node.Choose value below) fine = absurd fine
  right_end (node.Answer parts) fine = absurd fine

  end_fine : (layer : Layer) → IsRightEnd P v bx layer → IsEndInRange P v bx layer → IsFine (judge_end P v bx layer)
  end_fine (node.Leaf point) right range =
      let form = (length point == length (continuous_vars P)) && are_fracs point in
      let count = same_count (length point) (length (continuous_vars P)) (AreInBounds-length (continuous_vars P) point right.1.bounds) in
      then_fine form rule.Text 0 (line rule.Leaf (leaf_passes P v bx point))
      (and_from (length point == length (continuous_vars P)) (are_fracs point) count ((fracs_say point).1 right.0))
      (line_fine rule.Leaf (leaf_passes P v bx point) (leaf_passes_of P v bx point scale positive right.1 range))
  end_fine (node.Choose value below) right range = absurd right
  end_fine (node.Answer parts) right range = absurd right

-- ---- moves

module _ (P : Problem) (x : Var) (depth : ℕ) (judge : List Range → Policy → Verdict) (IsRight IsInRange : List Range → Policy → Type 0) where
  right_below : ((bx : List Range) (policy : Policy) → IsFine (judge bx policy) → IsRight bx policy × IsInRange bx policy)
      → (bx : List Range) (layer : BelowLayer) → IsFine (judge_below P judge bx layer) → IsRightBelow P IsRight bx layer × IsBelowInRange P IsInRange bx layer
  right_below below bx (node.On policy) fine = below bx policy fine
  right_below below bx (node.Illegal tree) fine =
      empty_right_of_fine P (whole_vars P) 0 bx tree (fine_parts (Fine 1) (judge_empty P (whole_vars P) 0 bx tree) fine).1

  below_fine : ((bx : List Range) (policy : Policy) → IsRight bx policy → IsInRange bx policy → IsFine (judge bx policy))
      → (bx : List Range) (layer : BelowLayer) → IsRightBelow P IsRight bx layer → IsBelowInRange P IsInRange bx layer → IsFine (judge_below P judge bx layer)
  below_fine below bx (node.On policy) right range = below bx policy right range
  below_fine below bx (node.Illegal tree) right range =
      fine_both (Fine 1) (judge_empty P (whole_vars P) 0 bx tree) tt (empty_fine_of_right P (whole_vars P) 0 bx tree right range)

  right_move : ((bx : List Range) (policy : Policy) → IsFine (judge bx policy) → IsRight bx policy × IsInRange bx policy)
      → (bx : List Range) (layer : Layer) → IsFine (judge_move P x depth judge bx layer)
      → IsRightMove P x depth IsRight bx layer × IsMoveInRange P depth IsInRange bx layer
  right_move below bx (node.Leaf point) fine = absurd fine
  right_move below bx (node.Choose value policy) fine =
      let first = line rule.Choose (Ok (is_in (range_at bx depth) value)) in
      let rest = judge (slice_set bx depth (single value)) policy in
      let move = fine_else (is_universal x) rule.Text 0 (first then rest) fine in
      let parts = fine_parts first rest move.1 in
      let within = between_of (range_at bx depth) value (ok_is (is_in (range_at bx depth) value) true (fine_line rule.Choose (Ok (is_in (range_at bx depth) value)) parts.0)) in
      let later = below (slice_set bx depth (single value)) policy parts.1 in
      ((exists_of x move.0, within, later.0), later.1)
  right_move below bx (node.Answer parts) fine =
      let each = λ (part : PolicyPart). judge_below P judge (slice_set bx depth (range_of part)) (below_of part) in
      let move = fine_then (is_universal x) rule.Text 0 (judge_parts range_of each (range_at bx depth) parts) fine in
      let cover = fine_cover range_of each (range_at bx depth) parts move.1 in (
        (
          universal_of x move.0,
          cover.0,
          λ k d h. (right_below below (slice_set bx depth (range_of (get_or parts k d))) (below_of (get_or parts k d)) (cover.1 k d h)).0,
        ),
        λ k d h. (right_below below (slice_set bx depth (range_of (get_or parts k d))) (below_of (get_or parts k d)) (cover.1 k d h)).1,
      )

  move_fine : ((bx : List Range) (policy : Policy) → IsRight bx policy → IsInRange bx policy → IsFine (judge bx policy))
      → (bx : List Range) (layer : Layer) → IsRightMove P x depth IsRight bx layer → IsMoveInRange P depth IsInRange bx layer
      → IsFine (judge_move P x depth judge bx layer)
  move_fine below bx (node.Leaf point) right range = absurd right
  move_fine below bx (node.Choose value policy) right range =
      let first = line rule.Choose (Ok (is_in (range_at bx depth) value)) in
      let rest = judge (slice_set bx depth (single value)) policy in
      else_fine (is_universal x) rule.Text 0 (first then rest) (not_universal x right.0)
      (fine_both first rest
      (line_fine rule.Choose (Ok (is_in (range_at bx depth) value)) (ap (λ b. Ok b) (in_of_between (range_at bx depth) value right.1)))
      (below (slice_set bx depth (single value)) policy right.2 range))
  move_fine below bx (node.Answer parts) right range =
      let each = λ (part : PolicyPart). judge_below P judge (slice_set bx depth (range_of part)) (below_of part) in
      then_fine (is_universal x) rule.Text 0 (judge_parts range_of each (range_at bx depth) parts) (is_for_all x right.0)
      (cover_fine range_of each (range_at bx depth) parts right.1
      (λ k d h. below_fine below (slice_set bx depth (range_of (get_or parts k d))) (below_of (get_or parts k d)) (right.2 k d h) (range k d h)))

-- ---- policies

module _ (P : Problem) (v : Fraction) (scale : pos 1 ≤ℤ P.scale) (positive : 0 < v.den) where
  pub right_of_fine : (xs : List Var) (depth : ℕ) (bx : List Range) (policy : Policy) → IsFine (judge_policy P v xs depth bx policy)
      → IsRightPolicy P v xs depth bx policy × IsPolicyInRange P v xs depth bx policy
  right_of_fine [] depth bx policy fine = right_end P v bx scale positive (out-Policy policy) fine
  right_of_fine (x ∷ xs) depth bx policy fine =
      right_move P x depth (judge_policy P v xs (depth + 1)) (IsRightPolicy P v xs (depth + 1)) (IsPolicyInRange P v xs (depth + 1))
      (λ b p is_fine. right_of_fine xs (depth + 1) b p is_fine) bx (out-Policy policy) fine

  pub fine_of_right : (xs : List Var) (depth : ℕ) (bx : List Range) (policy : Policy) → IsRightPolicy P v xs depth bx policy
      → IsPolicyInRange P v xs depth bx policy → IsFine (judge_policy P v xs depth bx policy)
  fine_of_right [] depth bx policy right range = end_fine P v bx scale positive (out-Policy policy) right range
  fine_of_right (x ∷ xs) depth bx policy right range =
      move_fine P x depth (judge_policy P v xs (depth + 1)) (IsRightPolicy P v xs (depth + 1)) (IsPolicyInRange P v xs (depth + 1))
      (λ b p is_right in_range. fine_of_right xs (depth + 1) b p is_right in_range) bx (out-Policy policy) right range
