use Rattle.std.proofs.Common.{sym, ◌∙◌, arith, pos}
use Rattle.qm_model.specs.Ranges.{single}
use Rattle.qm_refute.proofs.Steps.{fit_all, fit_skip, fit_use}
use Rattle.qm_refute.proofs.completion.fits.Goals as goal
use Rattle.qm_refute.proofs.completion.fits.Goals.{then-is_for_all+else-used-completion+else-not-has_value, else-is_for_all}

pub loop-at-preserved : goal.loop-at-preserved
loop-at-preserved c =
    let xs = c.args.vars.now in
    let bx = c.args.ranges.now in
    let us = c.args.completion.now in
    elim c.if-is_for_all.branch [
      | then-is_for_all+else-used-completion+else-not-has_value w ↦ rw w.used-is (record {
        within = omega arith;
        rest =
            sym (fit_use xs bx us c.loop-at.at c.loop-at.used c.index-vars-at.result c.loop-at-test.true (omega arith) c.index-vars-at.is (single (pos 0)) (pos 0)
            (sym c.is_for_all.ensures ∙ w.if-is_for_all.true) (omega arith) (sym w.has_value.ensures ∙ w.if-not-has_value.false)) ∙ c.loop-at.invariant.rest;
      })
      | else-is_for_all w ↦ rw w.used-is (record {
        within = c.loop-at.invariant.within;
        rest =
            sym (fit_skip xs bx us c.loop-at.at c.loop-at.used c.index-vars-at.result c.loop-at-test.true (omega arith) c.index-vars-at.is (single (pos 0))
            (sym c.is_for_all.ensures ∙ w.if-is_for_all.false)) ∙ c.loop-at.invariant.rest;
      })
    ]

pub returns : goal.returns
returns c =
    fit_all c.args.vars.now c.args.ranges.now c.args.completion.now c.loop-at.at c.loop-at.used c.loop-at-test.false c.loop-at.invariant.within
    ∙ c.loop-at.invariant.rest
