-- When a tree is right that shows that no universal play has its values in a box.
use Rattle.std.specs.Prelude.{◌≡◌, ◌⊎◌, ℕ, ◌+◌, false, List, [], ◌∷◌, All, IsOk, IsTrue, map, slice_set}
use Rattle.qm_math.specs.Fraction.{IsBelow}
use Rattle.qm_model.specs.declared.range.Range.{Range}
use Rattle.qm_model.specs.declared.variable.Player.TheVariants.{All as Universal}
use Rattle.qm_model.specs.declared.variable.Var.{Var}
use Rattle.qm_model.specs.declared.game.Problem.{Problem}
use Rattle.qm_model.specs.Boxes.{Cover, IsEmptyRange}
use Rattle.qm_model.specs.Plays.{is_universal, whole_vars}
use Rattle.qm_trees.specs.declared.empty.Empty.{Empty, out-Empty}
use Rattle.qm_trees.specs.declared.empty.Empty.TheOpen as node
use Rattle.qm_trees.specs.Entries.{AreWellFormed, Combination, weighted_rows}
use Rattle.qm_trees.specs.Evaluation.{right_side, least_combined}
use Rattle.qm_model.specs.Ranges.{range_at}
use Rattle.qm_trees.specs.EmptyJudgement.{Layer, range_of, below_of, all_uncertain, contradicts}

-- a universal variable's range is empty
abbrev pub HasEmptyUniversal : List Var → List Range → Type 0
HasEmptyUniversal [] bx = ⊥
HasEmptyUniversal (x ∷ xs) [] = ⊥
HasEmptyUniversal (x ∷ xs) (r ∷ bx) = (IsTrue (is_universal x) × IsEmptyRange r) ⊎ HasEmptyUniversal xs bx

-- uncertainty rows alone, without the objective, that contradict the box; or a universal range is empty
pub record IsRightClose (P : Problem) (bx : List Range) (combo : Combination) : Type 0 where
  pub without_objective : combo.objective ≡ false
  pub well_formed : AreWellFormed combo.entries
  pub named : IsTrue (all_uncertain P combo.entries)
  pub closes : HasEmptyUniversal (whole_vars P) bx ⊎ IsBelow (right_side P false (weighted_rows P [] combo.entries)) (least_combined P false (weighted_rows P [] combo.entries) bx)

abbrev pub IsRightEnd : Problem → List Range → Layer → Type 0
IsRightEnd P bx (node.Close combo) = IsRightClose P bx combo
IsRightEnd P bx (node.Split var parts) = ⊥

-- the tree splits x here, or closes, or splits a later variable
abbrev pub IsRightSplit : Problem → Var → ℕ → (List Range → Empty → Type 0) → List Range → Empty → Layer → Type 0
IsRightSplit P x depth IsRight bx tree (node.Close combo) = IsRightClose P bx combo
IsRightSplit P x depth IsRight bx tree (node.Split var parts) =
    ((var ≡ depth) × (x.player ≡ Universal) × Cover (range_at bx depth) (map range_of parts)
    × All (λ part. IsRight (slice_set bx depth (range_of part)) (below_of part)) parts)
    ⊎ ((var ≡ depth → ⊥) × IsRight bx tree)

-- the tree over a box, where it may split these whole variables from the depth on
abbrev pub IsRightEmpty : Problem → List Var → ℕ → List Range → Empty → Type 0
IsRightEmpty P [] depth bx tree = IsRightEnd P bx (out-Empty tree)
IsRightEmpty P (x ∷ xs) depth bx tree = IsRightSplit P x depth (IsRightEmpty P xs (depth + 1)) bx tree (out-Empty tree)

-- no operation of the combination leaves over the box
abbrev pub IsCloseInRange : Problem → List Range → Combination → Type 0
IsCloseInRange P bx combo = IsOk (contradicts P bx combo)

abbrev pub IsEndInRange : Problem → List Range → Layer → Type 0
IsEndInRange P bx (node.Close combo) = IsCloseInRange P bx combo
IsEndInRange P bx (node.Split var parts) = Unit {0}

abbrev pub IsSplitInRange : Problem → ℕ → (List Range → Empty → Type 0) → List Range → Empty → Layer → Type 0
IsSplitInRange P depth IsInRange bx tree (node.Close combo) = IsCloseInRange P bx combo
IsSplitInRange P depth IsInRange bx tree (node.Split var parts) =
    ((var ≡ depth) × All (λ part. IsInRange (slice_set bx depth (range_of part)) (below_of part)) parts) ⊎ ((var ≡ depth → ⊥) × IsInRange bx tree)

-- no operation of the tree's combinations leaves
abbrev pub IsEmptyInRange : Problem → List Var → ℕ → List Range → Empty → Type 0
IsEmptyInRange P [] depth bx tree = IsEndInRange P bx (out-Empty tree)
IsEmptyInRange P (x ∷ xs) depth bx tree = IsSplitInRange P depth (IsEmptyInRange P xs (depth + 1)) bx tree (out-Empty tree)
