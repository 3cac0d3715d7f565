use Rattle.std.proofs.Common.{◌≡◌, drop}
use Rattle.qm_trees.specs.Leaves.{rows_hold}
use Rattle.qm_check.proofs.leaf.rows_hold.Given as goal

abbrev pub invariant-loop-row : goal.invariant-loop-row
invariant-loop-row l =
    rows_hold l.leaf.problem.now l.leaf.bx.now l.leaf.point.now (drop l.row-index l.rows)
    ≡ rows_hold l.leaf.problem.now l.leaf.bx.now l.leaf.point.now l.rows
