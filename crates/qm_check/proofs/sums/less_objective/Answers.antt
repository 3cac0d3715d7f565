use Rattle.std.proofs.Common.{◌∙◌, arith, length, pos}
use Rattle.qm_math.specs.Fraction.{whole}
use Rattle.qm_frac.specs.Checked.{subtracted}
use Rattle.qm_model.specs.Linear.{HasVarsBelow}
use Rattle.qm_check.proofs.TermSums.{term_taken}
use Rattle.qm_check.proofs.sums.less_objective.Goals as goal

pub loop-term-preserved : goal.loop-term-preserved
loop-term-preserved c var =
    let ts = c.as_slice-term-items.result.now in
    let vars : HasVarsBelow (length c.args.sums.now) ts = rw c.as_slice-term-items.ensures.items c.requires.vars in
    let cell = rw c.sum_of.ensures at c.less.ensures in
    term_taken (λ k s. subtracted s (whole k)) ts c.loop-term.term-index (record { var = 0; coef = pos 0 }) c.loop-term.sums c.less.result
    c.loop-term-test.true c.as_slice-term-items.ensures.ordered
    (omega (arith, c.loop-term.auto.sums, vars c.loop-term.term-index (record { var = 0; coef = pos 0 }) c.loop-term-test.true))
    cell var
    ∙ c.loop-term.invariant var
