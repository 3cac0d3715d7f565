use Rattle.std.proofs.Common.{◌≡◌, drop}
use Rattle.qm_certread.specs.WordSteps.{digits_before}
use Rattle.qm_certread.proofs.order.is_before_in_digits.Given as goal

abbrev pub invariant-loop-i : goal.invariant-loop-i
invariant-loop-i l = digits_before l.a l.b ≡ digits_before (drop l.i l.a) (drop l.i l.b)
