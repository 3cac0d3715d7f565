use Rattle.std.proofs.Common.{◌≡◌, drop}
use Rattle.qm_trees.specs.EmptyJudgement.{all_uncertain}
use Rattle.qm_check.proofs.rows.all_uncertain.Given as goal

abbrev pub invariant-loop-entry : goal.invariant-loop-entry
invariant-loop-entry l = all_uncertain l.problem (drop l.entry-index l.entries) ≡ all_uncertain l.problem l.entries
