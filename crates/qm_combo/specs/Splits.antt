-- What is judged of a split, where it splits the variable at the depth.
use Rattle.std.specs.Prelude.{ℕ, ◌+◌, List, [], ◌∷◌, drop, slice_set, if◌then◌else◌}
use Rattle.qm_model.specs.declared.range.Range.{Range}
use Rattle.qm_model.specs.declared.variable.Var.{Var}
use Rattle.qm_model.specs.declared.game.Problem.{Problem}
use Rattle.qm_model.specs.Plays.{is_universal}
use Rattle.qm_trees.specs.declared.rule.Rule.TheVariants as rule
use Rattle.qm_trees.specs.declared.empty.EmptyPart.{EmptyPart}
use Rattle.qm_trees.specs.Verdicts.{Verdict, Broken}
use Rattle.qm_model.specs.Ranges.{range_at}
use Rattle.qm_trees.specs.Ranges.{judge_parts}
use Rattle.qm_trees.specs.EmptyJudgement.{range_of, below_of, judge_empty}

-- what stands below a part, once the variable at the depth has its range and those behind it may still be split
abbrev pub judge_part : Problem → List Var → ℕ → List Range → EmptyPart → Verdict
judge_part P rest depth bx part = judge_empty P (drop 1 rest) (depth + 1) (slice_set bx depth (range_of part)) (below_of part)

-- the parts of a split of the first of these variables, the one at the depth
abbrev pub judge_split : Problem → List Var → ℕ → List Range → List EmptyPart → Verdict
judge_split P [] depth bx parts = Broken rule.Text 0
judge_split P (x ∷ later) depth bx parts =
    if is_universal x then judge_parts range_of (judge_part P (x ∷ later) depth bx) (range_at bx depth) parts else Broken rule.Text 0
