use Rattle.std.proofs.Common.{drop}
use Rattle.qm_legal.specs.Queries.{AreSet}
use Rattle.probe_journals.proofs.legality.are_set.Given as goal

abbrev pub invariant-loop-at : goal.invariant-loop-at
invariant-loop-at l = AreSet (drop l.at l.vars) (drop l.at l.bx) → AreSet l.vars l.bx
