use Rattle.std.proofs.Common.{◌≤◌, drop, length}
use Rattle.qm_normal.proofs.Followed.{IsKnownBehind}
use Rattle.qm_normal.proofs.scope.continuous_early.Given as goal

abbrev pub invariant-loop-at : goal.invariant-loop-at
invariant-loop-at l = record {
  inside : l.at ≤ length l.order;
  known : IsKnownBehind l.ast (drop l.at l.order) l.early l.is_followed;
}

abbrev pub decreases-loop-at : goal.decreases-loop-at
decreases-loop-at l = l.at
