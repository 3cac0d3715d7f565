use Rattle.std.proofs.Common.{◌≡◌, ◌++◌, drop}
use Rattle.qm_trees.specs.Picks.{fixed}
use Rattle.qm_check.proofs.picked.append_fixed.Given as goal

abbrev pub invariant-loop-at : goal.invariant-loop-at
invariant-loop-at l = l.bx ++ fixed (drop l.at l.vars) (drop l.at l.ranges) l.left ≡ l.initial.bx ++ fixed l.vars l.ranges l.completion
