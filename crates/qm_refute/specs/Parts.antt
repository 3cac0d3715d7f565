-- What is judged of the parts over a variable's range.
use Rattle.std.specs.Prelude.{ℕ, ◌+◌, List, [], ◌∷◌, drop, length, slice_set, Ok}
use Rattle.qm_model.specs.declared.row.Row.{Row}
use Rattle.qm_model.specs.declared.range.Range.{Range}
use Rattle.qm_model.specs.declared.variable.Var.{Var}
use Rattle.qm_model.specs.declared.game.Problem.{Problem}
use Rattle.qm_model.specs.Goals.{Goal}
use Rattle.qm_model.specs.Ranges.{range_at}
use Rattle.qm_trees.specs.declared.rule.Rule.TheVariants as rule
use Rattle.qm_trees.specs.declared.refutation.RefutePart.{RefutePart}
use Rattle.qm_trees.specs.Verdicts.{Verdict, Broken, line, ◌then◌}
use Rattle.qm_trees.specs.Ranges.{judge_each}
use Rattle.qm_trees.specs.RefuteJudgement.{below_of, counts_over, judge_refute, range_of}

-- what stands below a part, once the variable at the depth has its range and those behind it are still to be set
abbrev pub judge_part : Problem → List Row → Goal → List Var → ℕ → List Range → RefutePart → Verdict
judge_part P cuts G rest depth bx part = judge_refute P cuts [] G (drop 1 rest) (depth + 1) (slice_set bx depth (range_of part)) (below_of part)

-- the parts over the first of these variables, the one at the depth
abbrev pub judge_over : Problem → List Row → Goal → List Var → ℕ → List Range → List RefutePart → Verdict
judge_over P cuts G [] depth bx parts = Broken rule.Text 0
judge_over P cuts G (x ∷ later) depth bx parts =
    line rule.Cover (Ok (counts_over x (range_at bx depth) (length parts)))
    then judge_each range_of (judge_part P cuts G (x ∷ later) depth bx) (range_at bx depth).low (range_at bx depth).high parts
