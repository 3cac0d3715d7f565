use Rattle.std.proofs.Common.{◌≡◌, drop}
use Rattle.qm_trees.specs.RefuteJudgement.{all_named}
use Rattle.qm_check.proofs.rows.all_named.Given as goal

abbrev pub invariant-loop-entry : goal.invariant-loop-entry
invariant-loop-entry l = all_named l.problem l.cuts (drop l.entry-index l.entries) ≡ all_named l.problem l.cuts l.entries
