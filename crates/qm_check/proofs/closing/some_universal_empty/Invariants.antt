use Rattle.std.proofs.Common.{◌≡◌, drop}
use Rattle.qm_trees.specs.EmptyJudgement.{some_universal_empty}
use Rattle.qm_check.proofs.closing.some_universal_empty.Given as goal

abbrev pub invariant-loop-at : goal.invariant-loop-at
invariant-loop-at l = some_universal_empty (drop l.at l.vars) (drop l.at l.bx) ≡ some_universal_empty l.vars l.bx
