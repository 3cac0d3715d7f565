use Rattle.std.proofs.Common.{◌-◌, ◌^◌, refl, ◌∙◌, arith}
use Rattle.qm_text.specs.Digits.{numeral_value}
use Rattle.qm_text.proofs.Values.{capped_more}
use Rattle.qm_text.proofs.digits.numeral_value.Goals as goal

pub loop-digit-init : goal.loop-digit-init
unfolding numeral_value
loop-digit-init c = refl

pub loop-digit-preserved : goal.loop-digit-preserved
loop-digit-preserved c =
    c.with_digit-n.ensures
    ∙ capped_more c.args.digits.now c.loop-digit.digit-index (2 ^ 128 - 1) c.loop-digit.n (omega arith) c.loop-digit.invariant c.loop-digit-test.true
