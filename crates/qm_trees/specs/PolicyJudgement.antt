-- A policy, judged in the order of its text.
use Rattle.std.specs.Prelude.{ℕ, ◌+◌, List, [], ◌∷◌, length, ◌&&◌, ◌==◌, Ok, slice_set, if◌then◌else◌}
use Rattle.qm_math.specs.Fraction.{Fraction}
use Rattle.qm_model.specs.declared.range.Range.{Range}
use Rattle.qm_model.specs.declared.variable.Var.{Var}
use Rattle.qm_model.specs.declared.game.Problem.{Problem}
use Rattle.qm_model.specs.Plays.{is_universal, whole_vars}
use Rattle.qm_model.specs.Points.{continuous_vars}
use Rattle.qm_trees.specs.declared.rule.Rule.TheVariants as rule
use Rattle.qm_trees.specs.declared.policy.Policy.{Policy, out-Policy}
use Rattle.qm_trees.specs.declared.policy.Below.TheOpen as node
use Rattle.qm_trees.specs.declared.policy.PolicyPart.{PolicyPart, out-PolicyPart}
use Rattle.qm_trees.specs.declared.policy.Below.{Below, out-Below}
use Rattle.qm_trees.specs.Verdicts.{Verdict, Fine, Broken, line, ◌then◌}
use Rattle.qm_model.specs.Ranges.{range_at, single, is_in}
use Rattle.qm_trees.specs.Ranges.{judge_parts}
use Rattle.qm_trees.specs.Fractions.{are_fracs}
use Rattle.qm_trees.specs.Leaves.{leaf_passes}
use Rattle.qm_trees.specs.EmptyJudgement.{judge_empty}

-- one level of a policy
abbrev pub Layer : Type 0
Layer = node.Policy-F Below Policy PolicyPart

abbrev pub range_of : PolicyPart → Range
range_of part = (out-PolicyPart part).range

-- what stands below a range
abbrev pub BelowLayer : Type 0
BelowLayer = node.Below-F Below Policy PolicyPart

abbrev pub below_of : PolicyPart → BelowLayer
below_of part = out-Below (out-PolicyPart part).below

-- where all whole variables are set: one value for each continuous variable, each a fraction of the program
abbrev pub judge_end : Problem → Fraction → List Range → Layer → Verdict
judge_end P v bx (node.Leaf point) =
    if (length point == length (continuous_vars P)) && are_fracs point then line rule.Leaf (leaf_passes P v bx point) else Broken rule.Text 0
judge_end P v bx (node.Choose value below) = Broken rule.Text 0
judge_end P v bx (node.Answer parts) = Broken rule.Text 0

-- below a range stands a policy, which `judge` judges, or a line and the tree that shows that no universal play has its
-- values in the box
abbrev pub judge_below : Problem → (List Range → Policy → Verdict) → List Range → BelowLayer → Verdict
judge_below P judge bx (node.On policy) = judge bx policy
judge_below P judge bx (node.Illegal tree) = Fine 1 then judge_empty P (whole_vars P) 0 bx tree

-- where x is the next variable: the line of the node, and what stands below it, which `judge` judges
abbrev pub judge_move : Problem → Var → ℕ → (List Range → Policy → Verdict) → List Range → Layer → Verdict
judge_move P x depth judge bx (node.Leaf point) = Broken rule.Text 0
judge_move P x depth judge bx (node.Choose value below) =
    if is_universal x then Broken rule.Text 0
    else (line rule.Choose (Ok (is_in (range_at bx depth) value)) then judge (slice_set bx depth (single value)) below)
judge_move P x depth judge bx (node.Answer parts) =
    if is_universal x then judge_parts range_of (λ part. judge_below P judge (slice_set bx depth (range_of part)) (below_of part)) (range_at bx depth) parts
    else Broken rule.Text 0

-- the policy at a value, over a box, where these whole variables from the depth on are still to be set
abbrev pub judge_policy : Problem → Fraction → List Var → ℕ → List Range → Policy → Verdict
judge_policy P v [] depth bx policy = judge_end P v bx (out-Policy policy)
judge_policy P v (x ∷ xs) depth bx policy = judge_move P x depth (judge_policy P v xs (depth + 1)) bx (out-Policy policy)
