-- What is judged of the parts of an answer.
use Rattle.std.specs.Prelude.{ℕ, ◌+◌, List, [], ◌∷◌, drop, slice_set, if◌then◌else◌}
use Rattle.qm_math.specs.Fraction.{Fraction}
use Rattle.qm_model.specs.declared.range.Range.{Range}
use Rattle.qm_model.specs.declared.variable.Var.{Var}
use Rattle.qm_model.specs.declared.game.Problem.{Problem}
use Rattle.qm_model.specs.Plays.{is_universal}
use Rattle.qm_model.specs.Ranges.{range_at}
use Rattle.qm_trees.specs.declared.rule.Rule.TheVariants as rule
use Rattle.qm_trees.specs.declared.policy.PolicyPart.{PolicyPart}
use Rattle.qm_trees.specs.Verdicts.{Verdict, Broken}
use Rattle.qm_trees.specs.Ranges.{judge_parts}
use Rattle.qm_trees.specs.PolicyJudgement.{range_of, below_of, judge_below, judge_policy}

-- what stands below a part, once the variable at the depth has its range and those behind it are still to be set
abbrev pub judge_part : Problem → Fraction → List Var → ℕ → List Range → PolicyPart → Verdict
judge_part P v rest depth bx part = judge_below P (judge_policy P v (drop 1 rest) (depth + 1)) (slice_set bx depth (range_of part)) (below_of part)

-- the parts of an answer to the first of these variables, the one at the depth
abbrev pub judge_answer : Problem → Fraction → List Var → ℕ → List Range → List PolicyPart → Verdict
judge_answer P v [] depth bx parts = Broken rule.Text 0
judge_answer P v (x ∷ later) depth bx parts =
    if is_universal x then judge_parts range_of (judge_part P v (x ∷ later) depth bx) (range_at bx depth) parts else Broken rule.Text 0
