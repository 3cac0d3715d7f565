use Rattle.std.proofs.Common.{arith, sym, ◌∙◌, subst}
use Rattle.qm_text.specs.DecimalSteps.{IsAnswer}
use Rattle.qm_text.proofs.Powers.{zero_tens, zero_in_range, more_above, more_below}
use Rattle.qm_text.proofs.tens.with_tens.Goals as goal

pub returns-then-n-eq0 : goal.returns-then-n-eq0
returns-then-n-eq0 c = rw c.if-n-eq0.true (c.whole.ensures ∙ sym (zero_tens c.args.above c.args.below), zero_in_range c.args.above c.args.below)

pub returns-then-below-above : goal.returns-then-below-above
returns-then-below-above c =
    subst (λ v. IsAnswer v c.multiplied.result) (sym (more_above c.args.n c.args.above c.args.below c.if-below-above.true)) c.multiplied.ensures

pub returns-else-below-above : goal.returns-else-below-above
returns-else-below-above c =
    let test = c.if-below-above.false in
    subst (λ v. IsAnswer v c.divided.result) (sym (more_below c.args.n c.args.above c.args.below (omega arith))) c.divided.ensures
