use Rattle.std.proofs.Common.{◌≡◌, ◌+◌, false, drop}
use Rattle.qm_lex.specs.Texts.{skipped}
use Rattle.qm_lex.proofs.gaps.skipped.Given as goal

abbrev pub invariant-loop-i : goal.invariant-loop-i
invariant-loop-i l = l.i + skipped l.is_inside (drop l.i l.text) ≡ skipped false l.text
