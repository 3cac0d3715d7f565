use Rattle.std.proofs.Common.{sym, ◌∙◌}
use Rattle.qm_check.proofs.Completions.{begin_all, begin_skips, begin_takes}
use Rattle.qm_check.proofs.play.are_in_bounds.Goals as goal
use Rattle.qm_check.proofs.play.are_in_bounds.Goals.{then-is_for_all+in-Some+else-not-is_first_within, else-is_for_all}

pub loop-var-preserved : goal.loop-var-preserved
loop-var-preserved c =
    let xs = c.args.vars.now in
    let us = c.loop-var.left.now in
    elim c.if-is_for_all.branch [
      | then-is_for_all+in-Some+else-not-is_first_within w ↦
          let more = w.in-Some.ensures.cases.0 in
          let within = rw more at (sym w.is_first_within.ensures ∙ w.if-not-is_first_within.false) in
          rw w.left-is (sym (begin_takes xs c.loop-var.var-index c.var-item.result c.loop-var-test.true c.var-item.is us _ _ (sym c.is_for_all.ensures ∙ w.if-is_for_all.true) more within) ∙ c.loop-var.invariant)
      | else-is_for_all w ↦
          rw w.left-is (sym (begin_skips xs c.loop-var.var-index c.var-item.result c.loop-var-test.true c.var-item.is us (sym c.is_for_all.ensures ∙ w.if-is_for_all.false)) ∙ c.loop-var.invariant)
    ]

pub returns : goal.returns
returns c = c.is_empty.ensures ∙ begin_all c.args.vars.now c.loop-var.var-index c.loop-var.left.now c.loop-var-test.false ∙ c.loop-var.invariant
