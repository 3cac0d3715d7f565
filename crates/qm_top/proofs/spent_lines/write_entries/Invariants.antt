use Rattle.std.proofs.Common.{◌≤◌, ◌++◌, map, drop}
use Rattle.qm_certfile.specs.Lines.{text_of}
use Rattle.qm_top.specs.PieceSteps.{IsUnderway}
use Rattle.qm_top.specs.SpentLines.{entry_line}
use Rattle.qm_top.proofs.spent_lines.write_entries.Given as goal

abbrev pub invariant-loop-entry : goal.invariant-loop-entry
invariant-loop-entry g l = record {
  underway : IsUnderway (g.O.Sink.taken l.fn.out) (g.O.Sink.taken l.out) (l.piece ++ text_of (map entry_line (drop l.entry-index l.entries))) (l.fn.piece ++ text_of (map entry_line l.entries));
  later : g.O.Sink.faults l.fn.out ≤ g.O.Sink.faults l.out;
}
