use Rattle.std.proofs.Common.{◌≡◌, ◌+◌, drop}
use Rattle.qm_lex.specs.Reading.{digits_at}
use Rattle.qm_lex.proofs.numbers.digits.Given as goal

abbrev pub invariant-loop-i : goal.invariant-loop-i
invariant-loop-i l = l.i + digits_at (drop l.i l.text) ≡ digits_at l.text
