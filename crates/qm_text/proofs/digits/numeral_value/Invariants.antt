use Rattle.std.proofs.Common.{◌≡◌, ◌-◌, ◌^◌, min, take}
use Rattle.qm_text.specs.Digits.{numeral_value}
use Rattle.qm_text.proofs.digits.numeral_value.Given as goal

abbrev pub invariant-loop-digit : goal.invariant-loop-digit
invariant-loop-digit l = l.n ≡ min (numeral_value (take l.digit-index l.digits)) (2 ^ 128 - 1)
