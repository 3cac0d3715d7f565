-- When a refutation is right: from no legal prefix in the box can the goal be reached.
use Rattle.std.specs.Prelude.{◌≡◌, ℕ, ◌+◌, ℤ, List, [], ◌∷◌, All, IsOk, IsSome, map, length, drop, slice_set}
use Rattle.qm_math.specs.Ranges.{IsBetween}
use Rattle.qm_model.specs.declared.row.Row.{Row}
use Rattle.qm_model.specs.declared.range.Range.{Range}
use Rattle.qm_model.specs.declared.variable.Player.TheVariants.{All as Universal}
use Rattle.qm_model.specs.declared.variable.Var.{Var}
use Rattle.qm_model.specs.declared.game.Problem.{Problem}
use Rattle.qm_model.specs.Boxes.{Cover}
use Rattle.qm_model.specs.Goals.{Goal}
use Rattle.qm_trees.specs.declared.combination.Entry.{Entry}
use Rattle.qm_trees.specs.declared.refutation.Refute.{Refute, out-Refute}
use Rattle.qm_trees.specs.declared.refutation.Refute.TheOpen as node
use Rattle.qm_trees.specs.Entries.{AreWellFormed, Combination, row_named, weighted_rows}
use Rattle.qm_trees.specs.Closing.{Closes, closing}
use Rattle.qm_model.specs.Ranges.{range_at, single}
use Rattle.qm_trees.specs.Picks.{Fit, HoldsOnBox, picked}
use Rattle.qm_trees.specs.RefuteJudgement.{Head, Layer, range_of, below_of}

-- each entry names a row that is there
abbrev pub AreNamed : Problem → List Row → List Entry → Type 0
AreNamed P cuts es = All (λ e. IsSome (row_named P cuts e.row)) es

-- well-formed entries on rows that are there, which close the goal over the box
abbrev pub IsRightClose : Problem → List Row → Goal → List Range → Combination → Type 0
IsRightClose P cuts G bx combo =
    AreWellFormed combo.entries × AreNamed P cuts combo.entries × Closes P combo.objective (weighted_rows P cuts combo.entries) bx G

abbrev pub IsRightEnd : Problem → List Row → Goal → List Range → Layer → Type 0
IsRightEnd P cuts G bx (node.Close combo) = IsRightClose P cuts G bx combo
IsRightEnd P cuts G bx (node.Over parts) = ⊥
IsRightEnd P cuts G bx (node.Pick value completion below) = ⊥

-- a value in range, and a completion in range with which each uncertainty row holds at the worst ends of the box
pub record IsRightPick (P : Problem) (later : List Var) (depth : ℕ) (bx : List Range) (value : ℤ) (completion : List ℤ) : Type 0 where
  pub value_in_range : IsBetween (range_at bx depth).low (range_at bx depth).high value
  pub completion_fits : Fit later (drop (depth + 1) bx) completion
  pub rows : All (HoldsOnBox (picked depth later bx value completion)) P.urows

abbrev pub IsRightMove : Problem → List Row → Goal → Var → List Var → ℕ → (List Range → Refute → Type 0) → List Range → Layer → Type 0
IsRightMove P cuts G x later depth IsRight bx (node.Close combo) = IsRightClose P cuts G bx combo
IsRightMove P cuts G x later depth IsRight bx (node.Over parts) =
    Cover (range_at bx depth) (map range_of parts) × (x.player ≡ Universal → length parts ≡ 1)
    × All (λ part. IsRight (slice_set bx depth (range_of part)) (below_of part)) parts
IsRightMove P cuts G x later depth IsRight bx (node.Pick value completion below) =
    (x.player ≡ Universal) × IsRightPick P later depth bx value completion × IsRight (slice_set bx depth (single value)) below

-- the refutation of a goal over a box, where these whole variables from the depth on are still to be set
abbrev pub IsRightRefutation : Problem → List Row → List Head → Goal → List Var → ℕ → List Range → Refute → Type 0
IsRightRefutation P cuts heads G [] depth bx tree = IsRightEnd P cuts G bx (out-Refute tree)
IsRightRefutation P cuts heads G (x ∷ xs) depth bx tree = IsRightMove P cuts G x xs depth (IsRightRefutation P cuts heads G xs (depth + 1)) bx (out-Refute tree)

-- no operation of the combination leaves over the box
abbrev pub IsCloseInRange : Problem → List Row → Goal → List Range → Combination → Type 0
IsCloseInRange P cuts G bx combo = IsOk (closing P combo.objective (weighted_rows P cuts combo.entries) bx G)

abbrev pub IsEndInRange : Problem → List Row → Goal → List Range → Layer → Type 0
IsEndInRange P cuts G bx (node.Close combo) = IsCloseInRange P cuts G bx combo
IsEndInRange P cuts G bx (node.Over parts) = Unit {0}
IsEndInRange P cuts G bx (node.Pick value completion below) = Unit {0}

abbrev pub IsMoveInRange : Problem → List Row → Goal → ℕ → (List Range → Refute → Type 0) → List Range → Layer → Type 0
IsMoveInRange P cuts G depth IsInRange bx (node.Close combo) = IsCloseInRange P cuts G bx combo
IsMoveInRange P cuts G depth IsInRange bx (node.Over parts) = All (λ part. IsInRange (slice_set bx depth (range_of part)) (below_of part)) parts
IsMoveInRange P cuts G depth IsInRange bx (node.Pick value completion below) = IsInRange (slice_set bx depth (single value)) below

-- no operation of the refutation's combinations leaves
abbrev pub IsRefutationInRange : Problem → List Row → List Head → Goal → List Var → ℕ → List Range → Refute → Type 0
IsRefutationInRange P cuts heads G [] depth bx tree = IsEndInRange P cuts G bx (out-Refute tree)
IsRefutationInRange P cuts heads G (x ∷ xs) depth bx tree = IsMoveInRange P cuts G depth (IsRefutationInRange P cuts heads G xs (depth + 1)) bx (out-Refute tree)
