use Rattle.std.proofs.Common.{arith}
use Rattle.qm_parse.proofs.InfiniteBounds.{infinite_here, infinite_nowhere}
use Rattle.qm_parse.proofs.bound_checks.infinite.Goals as goal

pub returns-then-is_none : goal.returns-then-is_none
returns-then-is_none c =
    infinite_here c.args.bounds.now c.loop-bound.bound-index c.bound-item.result _ (omega arith) c.bound-item.is c.if-is_none.ensures c.loop-bound.invariant

pub returns : goal.returns
returns c = infinite_nowhere c.args.bounds.now c.loop-bound.bound-index _ (omega arith) c.loop-bound.invariant
