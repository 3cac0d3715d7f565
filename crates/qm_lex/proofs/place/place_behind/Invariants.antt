use Rattle.std.proofs.Common.{◌≡◌, ◌+◌, ◌≤◌, drop}
use Rattle.qm_lex.specs.Places.{column_behind, line_behind}
use Rattle.qm_lex.proofs.place.place_behind.Given as goal

abbrev pub invariant-loop-byte : goal.invariant-loop-byte
invariant-loop-byte l = record {
  line : line_behind l.line (drop l.byte-index l.bytes) ≡ line_behind l.fn.start.line l.bytes;
  column : column_behind l.column (drop l.byte-index l.bytes) ≡ column_behind l.fn.start.column l.bytes;
  few_lines : l.line ≤ l.fn.start.line + l.byte-index;
  few_columns : l.column ≤ l.fn.start.column + l.byte-index;
}
