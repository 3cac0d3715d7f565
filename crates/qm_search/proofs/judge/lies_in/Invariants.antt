use Rattle.std.proofs.Common.{◌≡◌, length}
use Rattle.qm_trees.specs.BoxPoints.{IsInBox}
use Rattle.qm_search.proofs.judge.lies_in.Given as goal

abbrev pub invariant-loop-range : goal.invariant-loop-range
invariant-loop-range l = record {
  long : length l.range-iterator.a.rest.now ≡ length l.range-iterator.b.rest.now;
  inside : IsInBox l.range-iterator.a.rest.now l.range-iterator.b.rest.now → IsInBox l.bx l.point;
}
