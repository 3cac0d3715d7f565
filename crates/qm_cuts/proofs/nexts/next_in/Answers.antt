use Rattle.std.proofs.Common.{arith, sym}
use Rattle.qm_combo.proofs.Coefficients.{coefficient_passed}
use Rattle.qm_cuts.proofs.nexts.next_in.Goals as goal

pub returns-then-at-terms-clause-none : goal.returns-then-at-terms-clause-none
returns-then-at-terms-clause-none c = λ n h below.
    sym (coefficient_passed c.args.terms.now c.place_from-at.result n c.if-at-terms.true c.requires.ordered (omega (arith, below, c.min.ensures)) (c.place_from-at.ensures.before n h))
