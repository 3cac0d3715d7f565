use Rattle.std.proofs.Common.{◌≡◌, ◌++◌, map, drop}
use Rattle.qm_certfile.specs.Lines.{text_of}
use Rattle.qm_top.specs.LeaveLines.{pivot_line}
use Rattle.qm_top.proofs.leave_lines.write_pivots.Given as goal

abbrev pub invariant-loop-pivot : goal.invariant-loop-pivot
invariant-loop-pivot l = l.out ++ text_of (map pivot_line (drop l.pivot-index l.pivots)) ≡ l.fn.out ++ text_of (map pivot_line l.pivots)
