use Rattle.std.proofs.Common.{◌≡◌, ◌+◌, drop}
use Rattle.qm_normal.specs.Normal.{bound_rows_from, with_front}
use Rattle.qm_normal.proofs.bound_rows.bound_rows.Given as goal

abbrev pub invariant-loop-i : goal.invariant-loop-i
invariant-loop-i l = with_front l.list (bound_rows_from l.ast (l.first + l.i) (drop l.i l.continuous)) ≡ with_front l.fn.front (bound_rows_from l.ast l.first l.continuous)
