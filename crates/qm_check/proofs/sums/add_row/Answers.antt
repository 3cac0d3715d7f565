use Rattle.std.proofs.Common.{◌∙◌, arith, length, pos}
use Rattle.qm_model.specs.Linear.{HasVarsBelow}
use Rattle.qm_check.proofs.TermSums.{plus_product_is, product_added, term_taken}
use Rattle.qm_check.proofs.sums.add_row.Goals as goal

pub loop-term-preserved : goal.loop-term-preserved
loop-term-preserved c var =
    let ts = c.as_slice-term-items.result.now in
    let vars : HasVarsBelow (length c.args.sums.now) ts = rw c.as_slice-term-items.ensures.items c.requires.terms.vars in
    let cell = rw c.sum_of.ensures at c.plus_product.ensures in
    term_taken (product_added c.args.by) ts c.loop-term.term-index (record { var = 0; coef = pos 0 }) c.loop-term.sums c.plus_product.result
    c.loop-term-test.true c.as_slice-term-items.ensures.ordered
    (omega (arith, c.loop-term.auto.sums, vars c.loop-term.term-index (record { var = 0; coef = pos 0 }) c.loop-term-test.true))
    (cell ∙ plus_product_is _ _ _) var
    ∙ c.loop-term.invariant var
