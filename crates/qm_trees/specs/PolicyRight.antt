-- When a policy is right: each leaf meets the rows and reaches the value, whatever the universal player does, and what
-- is left without an answer is shown to be illegal.
use Rattle.std.specs.Prelude.{◌≡◌, ℕ, ◌+◌, List, [], ◌∷◌, All, map, slice_set, IsOk}
use Rattle.qm_math.specs.Fraction.{Fraction}
use Rattle.qm_math.specs.Ranges.{IsBetween}
use Rattle.qm_frac.specs.Lowest.{IsFrac}
use Rattle.qm_model.specs.declared.range.Range.{Range}
use Rattle.qm_model.specs.declared.variable.Player.TheVariants.{Exists, All as Universal}
use Rattle.qm_model.specs.declared.variable.Var.{Var}
use Rattle.qm_model.specs.declared.game.Problem.{Problem}
use Rattle.qm_model.specs.Boxes.{Cover}
use Rattle.qm_model.specs.Plays.{whole_vars}
use Rattle.qm_trees.specs.declared.policy.Policy.{Policy, out-Policy}
use Rattle.qm_trees.specs.declared.policy.Below.TheOpen as node
use Rattle.qm_model.specs.Ranges.{range_at, single}
use Rattle.qm_trees.specs.Leaves.{IsRightLeaf, row_holds, objective_reaches}
use Rattle.qm_trees.specs.EmptyRight.{IsRightEmpty, IsEmptyInRange}
use Rattle.qm_trees.specs.PolicyJudgement.{Layer, BelowLayer, range_of, below_of}

-- fractions of the program, which make a right leaf
abbrev pub IsRightEnd : Problem → Fraction → List Range → Layer → Type 0
IsRightEnd P v bx (node.Leaf point) = All IsFrac point × IsRightLeaf P v bx point
IsRightEnd P v bx (node.Choose value below) = ⊥
IsRightEnd P v bx (node.Answer parts) = ⊥

-- a right policy, or a right tree that shows that no universal play has its values in the box
abbrev pub IsRightBelow : Problem → (List Range → Policy → Type 0) → List Range → BelowLayer → Type 0
IsRightBelow P IsRight bx (node.On policy) = IsRight bx policy
IsRightBelow P IsRight bx (node.Illegal tree) = IsRightEmpty P (whole_vars P) 0 bx tree

-- the existential player chooses a value in range; the universal player's range is covered by the parts
abbrev pub IsRightMove : Problem → Var → ℕ → (List Range → Policy → Type 0) → List Range → Layer → Type 0
IsRightMove P x depth IsRight bx (node.Leaf point) = ⊥
IsRightMove P x depth IsRight bx (node.Choose value below) =
    (x.player ≡ Exists) × IsBetween (range_at bx depth).low (range_at bx depth).high value × IsRight (slice_set bx depth (single value)) below
IsRightMove P x depth IsRight bx (node.Answer parts) =
    (x.player ≡ Universal) × Cover (range_at bx depth) (map range_of parts)
    × All (λ part. IsRightBelow P IsRight (slice_set bx depth (range_of part)) (below_of part)) parts

-- the policy reaches v from each prefix in the box, where these whole variables from the depth on are still to be set
abbrev pub IsRightPolicy : Problem → Fraction → List Var → ℕ → List Range → Policy → Type 0
IsRightPolicy P v [] depth bx policy = IsRightEnd P v bx (out-Policy policy)
IsRightPolicy P v (x ∷ xs) depth bx policy = IsRightMove P x depth (IsRightPolicy P v xs (depth + 1)) bx (out-Policy policy)

-- no operation at a leaf leaves
abbrev pub IsLeafInRange : Problem → Fraction → List Range → List Fraction → Type 0
IsLeafInRange P v bx point = All (λ row. IsOk (row_holds P bx point row)) P.rows × IsOk (objective_reaches P v bx point)

abbrev pub IsEndInRange : Problem → Fraction → List Range → Layer → Type 0
IsEndInRange P v bx (node.Leaf point) = IsLeafInRange P v bx point
IsEndInRange P v bx (node.Choose value below) = Unit {0}
IsEndInRange P v bx (node.Answer parts) = Unit {0}

abbrev pub IsBelowInRange : Problem → (List Range → Policy → Type 0) → List Range → BelowLayer → Type 0
IsBelowInRange P IsInRange bx (node.On policy) = IsInRange bx policy
IsBelowInRange P IsInRange bx (node.Illegal tree) = IsEmptyInRange P (whole_vars P) 0 bx tree

abbrev pub IsMoveInRange : Problem → ℕ → (List Range → Policy → Type 0) → List Range → Layer → Type 0
IsMoveInRange P depth IsInRange bx (node.Leaf point) = Unit {0}
IsMoveInRange P depth IsInRange bx (node.Choose value below) = IsInRange (slice_set bx depth (single value)) below
IsMoveInRange P depth IsInRange bx (node.Answer parts) = All (λ part. IsBelowInRange P IsInRange (slice_set bx depth (range_of part)) (below_of part)) parts

-- no operation at a leaf of the policy or of a tree below it leaves
abbrev pub IsPolicyInRange : Problem → Fraction → List Var → ℕ → List Range → Policy → Type 0
IsPolicyInRange P v [] depth bx policy = IsEndInRange P v bx (out-Policy policy)
IsPolicyInRange P v (x ∷ xs) depth bx policy = IsMoveInRange P depth (IsPolicyInRange P v xs (depth + 1)) bx (out-Policy policy)
