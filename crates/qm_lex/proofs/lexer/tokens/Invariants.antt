use Rattle.std.proofs.Common.{◌≤◌, ◌-◌, length}
use Rattle.qm_lex.specs.Texts.{Reaches}
use Rattle.qm_lex.proofs.lexer.tokens.Given as goal

abbrev pub invariant-loop-at : goal.invariant-loop-at
invariant-loop-at l = record {
  reached : Reaches l.text 0 l.found l.at;
  inside : l.at ≤ length l.text;
}

abbrev pub decreases-loop-at : goal.decreases-loop-at
decreases-loop-at l = length l.text - l.at
