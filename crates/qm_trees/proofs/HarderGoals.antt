-- A right refutation of a goal is one of each goal that is no easier, and the same operations are done for each goal.
use Rattle.std.proofs.Common.{ℕ, ◌+◌, Bool, true, false, List, [], ◌∷◌, get_or, refl, pos, ◌≤ℤ◌, Ok, Err}
use Rattle.std.specs.Prelude.{IsOk, slice_set, if◌then◌else◌}
use Rattle.std.specs.List.{list_any}
use Rattle.qm_frac.specs.Checked.{Checked, and_then}
use Rattle.qm_model.specs.declared.row.Row.{Row}
use Rattle.qm_model.specs.declared.range.Range.{Range}
use Rattle.qm_model.specs.declared.variable.Var.{Var}
use Rattle.qm_model.specs.declared.game.Problem.{Problem}
use Rattle.qm_model.specs.Goals.{Goal, IsNoHarder, IsProper}
use Rattle.qm_trees.specs.declared.combination.ComboValue.{ComboValue}
use Rattle.qm_trees.specs.declared.refutation.Refute.{Refute, out-Refute}
use Rattle.qm_trees.specs.declared.refutation.Refute.TheOpen as node
use Rattle.qm_trees.specs.Entries.{Combination, Weighted, weighted_rows}
use Rattle.qm_trees.specs.Evaluation.{value_of}
use Rattle.qm_trees.specs.Closing.{closes_goal, is_empty_range, closing}
use Rattle.qm_model.specs.Ranges.{single}
use Rattle.qm_trees.specs.RefuteJudgement.{Head, Layer, range_of, below_of}
use Rattle.qm_trees.specs.RefuteRight.{IsRightClose, IsRightEnd, IsRightMove, IsRightRefutation, IsCloseInRange, IsEndInRange, IsMoveInRange, IsRefutationInRange}
use Rattle.qm_trees.proofs.CombinationCloses.{closes_harder}
use Rattle.qm_trees.proofs.Multipliers.{entries_positive, weighted_dens}

module _ (P : Problem) (cuts : List Row) (heads : List Head) (G H : Goal) (scale : pos 1 ≤ℤ P.scale) (proper : IsProper G) (proper' : IsProper H) (order : IsNoHarder G H) where
  close_harder : (bx : List Range) (combo : Combination) → IsRightClose P cuts G bx combo → IsRightClose P cuts H bx combo
  close_harder bx combo right = (
    right.0,
    right.1,
    closes_harder P combo.objective (weighted_rows P cuts combo.entries) bx G H (weighted_dens P cuts combo.entries (entries_positive combo.entries right.0.0)) scale proper proper' order right.2,
  )

  end_harder : (bx : List Range) (layer : Layer) → IsRightEnd P cuts G bx layer → IsRightEnd P cuts H bx layer
  end_harder bx (node.Close combo) right = close_harder bx combo right
  end_harder bx (node.Over parts) right = absurd right
  end_harder bx (node.Pick value completion below) right = absurd right

  move_harder : (x : Var) (later : List Var) (depth : ℕ) (IsRight IsRightToo : List Range → Refute → Type 0) → ((bx : List Range) (tree : Refute) → IsRight bx tree → IsRightToo bx tree)
      → (bx : List Range) (layer : Layer) → IsRightMove P cuts G x later depth IsRight bx layer → IsRightMove P cuts H x later depth IsRightToo bx layer
  move_harder x later depth IsRight IsRightToo below bx (node.Close combo) right = close_harder bx combo right
  move_harder x later depth IsRight IsRightToo below bx (node.Over parts) right =
      (right.0, right.1, λ k d h. below (slice_set bx depth (range_of (get_or parts k d))) (below_of (get_or parts k d)) (right.2 k d h))
  move_harder x later depth IsRight IsRightToo below bx (node.Pick value completion tree) right = (right.0, right.1, below (slice_set bx depth (single value)) tree right.2)

  pub right_at_harder : (xs : List Var) (depth : ℕ) (bx : List Range) (tree : Refute) → IsRightRefutation P cuts heads G xs depth bx tree → IsRightRefutation P cuts heads H xs depth bx tree
  right_at_harder [] depth bx tree right = end_harder bx (out-Refute tree) right
  right_at_harder (x ∷ xs) depth bx tree right =
      move_harder x xs depth (IsRightRefutation P cuts heads G xs (depth + 1)) (IsRightRefutation P cuts heads H xs (depth + 1)) (right_at_harder xs (depth + 1)) bx (out-Refute tree) right

-- ---- in range

answer_ok : (x : Checked ComboValue) (a b : ComboValue → Bool) → IsOk (and_then x (λ v. Ok (a v))) → IsOk (and_then x (λ v. Ok (b v)))
answer_ok (Ok v) a b h = refl
answer_ok (Err leaves) a b h = h

test_ok : (empty : Bool) (x : Checked ComboValue) (a b : ComboValue → Bool)
    → IsOk (if empty then Ok true else and_then x (λ v. let z : Checked Bool = Ok (a v) in z)) → IsOk (if empty then Ok true else and_then x (λ v. let z : Checked Bool = Ok (b v) in z))
test_ok true x a b h = refl
test_ok false x a b h = answer_ok x a b h

closing_ok : (P : Problem) (objective : Bool) (ws : List Weighted) (bx : List Range) (G H : Goal) → IsOk (closing P objective ws bx G) → IsOk (closing P objective ws bx H)
unfolding closing
closing_ok P objective ws bx G H h = test_ok (list_any is_empty_range bx) (value_of P objective ws bx) (closes_goal G) (closes_goal H) h

module _ (P : Problem) (cuts : List Row) (heads : List Head) (G H : Goal) where
  close_range : (bx : List Range) (combo : Combination) → IsCloseInRange P cuts G bx combo → IsCloseInRange P cuts H bx combo
  close_range bx combo range = closing_ok P combo.objective (weighted_rows P cuts combo.entries) bx G H range

  end_range : (bx : List Range) (layer : Layer) → IsEndInRange P cuts G bx layer → IsEndInRange P cuts H bx layer
  end_range bx (node.Close combo) range = close_range bx combo range
  end_range bx (node.Over parts) range = tt
  end_range bx (node.Pick value completion below) range = tt

  move_range : (depth : ℕ) (IsInRange IsInRangeToo : List Range → Refute → Type 0) → ((bx : List Range) (tree : Refute) → IsInRange bx tree → IsInRangeToo bx tree)
      → (bx : List Range) (layer : Layer) → IsMoveInRange P cuts G depth IsInRange bx layer → IsMoveInRange P cuts H depth IsInRangeToo bx layer
  move_range depth IsInRange IsInRangeToo below bx (node.Close combo) range = close_range bx combo range
  move_range depth IsInRange IsInRangeToo below bx (node.Over parts) range =
      λ k d h. below (slice_set bx depth (range_of (get_or parts k d))) (below_of (get_or parts k d)) (range k d h)
  move_range depth IsInRange IsInRangeToo below bx (node.Pick value completion tree) range = below (slice_set bx depth (single value)) tree range

  -- whether operations leave doesn't depend on the goal
  pub in_range_at_harder : (xs : List Var) (depth : ℕ) (bx : List Range) (tree : Refute) → IsRefutationInRange P cuts heads G xs depth bx tree → IsRefutationInRange P cuts heads H xs depth bx tree
  in_range_at_harder [] depth bx tree range = end_range bx (out-Refute tree) range
  in_range_at_harder (x ∷ xs) depth bx tree range =
      move_range depth (IsRefutationInRange P cuts heads G xs (depth + 1)) (IsRefutationInRange P cuts heads H xs (depth + 1)) (in_range_at_harder xs (depth + 1)) bx (out-Refute tree) range
