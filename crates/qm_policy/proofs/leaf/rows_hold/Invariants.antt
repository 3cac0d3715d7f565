use Rattle.std.proofs.Common.{◌≡◌, drop}
use Rattle.qm_trees.specs.Leaves.{rows_hold}
use Rattle.qm_policy.proofs.leaf.rows_hold.Given as goal

abbrev pub invariant-loop-row : goal.invariant-loop-row
invariant-loop-row l = rows_hold l.problem l.bx l.point (drop l.row-index l.rows) ≡ rows_hold l.problem l.bx l.point l.rows
