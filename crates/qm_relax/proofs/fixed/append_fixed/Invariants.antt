use Rattle.std.proofs.Common.{◌≡◌, ◌++◌, ◌≤◌, drop, length}
use Rattle.qm_trees.specs.Picks.{fixed}
use Rattle.qm_relax.proofs.fixed.append_fixed.Given as goal

abbrev pub invariant-loop-at : goal.invariant-loop-at
invariant-loop-at l = record {
  within : l.used ≤ length l.values;
  rest : l.out ++ fixed (drop l.at l.vars) (drop l.at l.ranges) (drop l.used l.values) ≡ l.fn.out ++ fixed l.vars l.ranges l.values;
}
