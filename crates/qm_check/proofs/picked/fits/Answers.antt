use Rattle.std.proofs.Common.{sym, ◌∙◌, arith}
use Rattle.qm_check.proofs.Completions.{fit_skips, fit_takes}
use Rattle.qm_check.proofs.picked.fits.Goals as goal
use Rattle.qm_check.proofs.picked.fits.Goals.{then-is_for_all+in-Some+else-not-has_first, else-is_for_all}

pub loop-at-preserved : goal.loop-at-preserved
loop-at-preserved c =
    let xs = c.args.vars.now in
    let bx = c.args.ranges.now in
    let us = c.loop-at.left.now in
    elim c.if-is_for_all.branch [
      | then-is_for_all+in-Some+else-not-has_first w ↦
          let more = w.in-Some.ensures.cases.0 in
          let within = rw more at (sym w.has_first.ensures ∙ w.if-not-has_first.false) in
          rw w.left-is (sym (fit_takes xs bx c.loop-at.at c.index-vars-at.result c.loop-at-test.true (omega arith) c.index-vars-at.is us _ _ (sym c.is_for_all.ensures ∙ w.if-is_for_all.true) more within) ∙ c.loop-at.invariant)
      | else-is_for_all w ↦
          rw w.left-is (sym (fit_skips xs bx c.loop-at.at c.index-vars-at.result c.loop-at-test.true (omega arith) c.index-vars-at.is us (sym c.is_for_all.ensures ∙ w.if-is_for_all.false)) ∙ c.loop-at.invariant)
    ]
