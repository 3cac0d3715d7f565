use Rattle.std.proofs.Common.{drop}
use Rattle.qm_legal.specs.Queries.{AreFree}
use Rattle.probe_journals.proofs.legality.are_free.Given as goal

abbrev pub invariant-loop-at : goal.invariant-loop-at
invariant-loop-at l = AreFree (drop l.at l.vars) (drop l.at l.bx) → AreFree l.vars l.bx
