use Rattle.std.proofs.Common.{◌≡◌, drop}
use Rattle.qm_trees.specs.Leaves.{are_in_bounds}
use Rattle.qm_check.proofs.leaf.are_within.Given as goal

abbrev pub invariant-loop-at : goal.invariant-loop-at
invariant-loop-at l = are_in_bounds (drop l.at l.vars) (drop l.at l.point) ≡ are_in_bounds l.vars l.point
