use Rattle.std.proofs.Common.{◌≡◌, ◌+◌, ◌≤◌, length, drop, take}
use Rattle.qm_lex.specs.Places.{column_behind, line_behind}
use Rattle.qm_lex.specs.Texts.{AreInOrder}
use Rattle.qm_parse.specs.Symbols.{names_behind, names_of}
use Rattle.qm_parse.proofs.SymbolSteps.{Continues}
use Rattle.qm_parse.proofs.symbols.symbols.Given as goal

abbrev pub invariant-loop-i : goal.invariant-loop-i
invariant-loop-i l = record {
  inside : l.behind.at ≤ length l.text;
  counted : l.i ≤ l.behind.at;
  few : length l.names ≤ l.i;
  line : l.behind.place.line ≡ line_behind 1 (take l.behind.at l.text);
  column : l.behind.place.column ≡ column_behind 1 (take l.behind.at l.text);
  few_lines : l.behind.place.line ≤ 1 + l.behind.at;
  few_columns : l.behind.place.column ≤ 1 + l.behind.at;
  ordered : AreInOrder l.behind.at (drop l.i l.tokens) (length l.text);
  named : names_behind l.text l.names (drop l.i l.tokens) ≡ names_of l.text l.tokens;
  spelled : Continues l.text (names_of l.text l.tokens) l.behind.line (drop l.i l.tokens) l.symbols l.tokens;
}
