use Rattle.std.proofs.Common.{◌≡◌, ◌≤◌, ◌+◌, drop}
use Rattle.qm_text.specs.DecimalSteps.{with_digits}
use Rattle.qm_text.proofs.significant.with_digits.Given as goal

abbrev pub invariant-loop-digit : goal.invariant-loop-digit
invariant-loop-digit l =
    (with_digits l.so_far (drop l.digit-index l.digits) ≡ with_digits l.fn.from l.digits) × (l.so_far.zeros ≤ l.fn.from.zeros + l.digit-index)
