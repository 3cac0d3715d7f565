use Rattle.std.proofs.Common.{◌+◌, drop, sym, ap, ◌∙◌, arith}
use Rattle.qm_text.specs.DecimalSteps.{with_digits}
use Rattle.qm_text.proofs.Zeros.{with_digits-drop, with_digits-end}
use Rattle.qm_text.proofs.significant.with_digits.Goals as goal

pub loop-digit-preserved : goal.loop-digit-preserved
loop-digit-preserved c =
    let few = c.with_digit-so_far.ensures.few in
    let before = c.loop-digit.invariant.1 in (
      ap (λ s. with_digits s (drop (c.loop-digit.digit-index + 1) c.args.digits.now)) c.with_digit-so_far.ensures.value
          ∙ with_digits-drop c.loop-digit.so_far c.args.digits.now c.loop-digit.digit-index c.loop-digit-test.true
          ∙ c.loop-digit.invariant.0,
      omega arith,
    )

pub returns-clause-value : goal.returns-clause-value
returns-clause-value c = sym (with_digits-end c.loop-digit.so_far c.args.digits.now c.loop-digit.digit-index c.loop-digit-test.false) ∙ c.loop-digit.invariant.0
