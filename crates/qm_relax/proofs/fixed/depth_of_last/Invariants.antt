use Rattle.std.proofs.Common.{◌≡◌, ◌+◌, drop}
use Rattle.qm_trees.specs.Picks.{universal_count}
use Rattle.qm_relax.specs.Scenarios.{depth_of_last}
use Rattle.qm_relax.proofs.fixed.depth_of_last.Given as goal

abbrev pub invariant-loop-at : goal.invariant-loop-at
invariant-loop-at l = record {
  left : l.left ≡ universal_count (drop l.at l.vars);
  rest : l.at + depth_of_last (drop l.at l.vars) l.count ≡ depth_of_last l.vars l.count;
}
