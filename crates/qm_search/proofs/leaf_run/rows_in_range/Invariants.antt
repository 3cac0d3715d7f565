use Rattle.std.proofs.Common.{◌≡◌, ◌+◌, drop}
use Rattle.qm_simplex.specs.LeafRuns.{rows_at}
use Rattle.qm_search.proofs.leaf_run.rows_in_range.Given as goal

abbrev pub invariant-loop-at : goal.invariant-loop-at
invariant-loop-at l = rows_at l.problem l.bx l.point (l.at + 1) (drop l.at l.rows) ≡ rows_at l.problem l.bx l.point 1 l.rows
