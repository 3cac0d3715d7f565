use Rattle.std.proofs.Common.{drop}
use Rattle.qm_normal.proofs.Searches.{UnsetFrom}
use Rattle.qm_normal.proofs.scope.continuous_universal.Given as goal

abbrev pub invariant-loop-named : goal.invariant-loop-named
invariant-loop-named l = UnsetFrom l.ast (drop l.named-index l.order)
