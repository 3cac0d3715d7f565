use Rattle.std.proofs.Common.{drop}
use Rattle.qm_normal.proofs.Searches.{LargeFrom}
use Rattle.qm_normal.proofs.limits.large_domain.Given as goal

abbrev pub invariant-loop-named : goal.invariant-loop-named
invariant-loop-named l = LargeFrom l.ast (drop l.named-index l.order)
