use Rattle.std.proofs.Common.{◌≡◌}
use Rattle.qm_search.proofs.remembered.securing.Given as goal

abbrev pub invariant-loop-one : goal.invariant-loop-one
invariant-loop-one l = record { same : l.bx ≡ l.fn.bx }
