use Rattle.std.proofs.Common.{ap, sym, ◌∙◌, arith, true, ◌&&◌}
use Rattle.std.proofs.lemmas.Result.{err_from_is_err_and}
use Rattle.qm_cuts.specs.Steps.{fits_at}
use Rattle.qm_cuts.proofs.Deriving.{a_variable}
use Rattle.qm_cuts.proofs.EachVariable.{fit_leaves, fit_next, fit_step}
use Rattle.qm_cuts.proofs.tested.fit_each.Goals as goal

pub loop-var-init : goal.loop-var-init
loop-var-init c =
    let next = c.next_of_both-var.ensures in
    record {
      within = next.within;
      from_here = sym (fit_next c.args.problem.now c.args.earlier.now c.args.entries.now c.args.terms.now 0 c.next_of_both-var.result true (omega arith) next.within next.none next.no_term);
    }

pub returns-in_err-coefficient : goal.returns-in_err-coefficient
returns-in_err-coefficient c =
    let p = err_from_is_err_and c.from_residual.result c.from_residual.ensures.1 in
    let below = rw c.as_slice-vars.ensures at c.loop-var-test.true in
    let adds = sym c.add_coefficients.ensures ∙ c.in_err-coefficient.was in
    rw (p.1, p.2)
    (fit_leaves c.args.problem.now c.args.earlier.now c.args.entries.now c.args.terms.now c.loop-var.var a_variable c.loop-var.fit _ below c.loop-var.invariant.from_here _ adds)

pub loop-var-preserved : goal.loop-var-preserved
loop-var-preserved c =
    let next = c.next_of_both-var-in-loop-var.ensures in
    let below = rw c.as_slice-vars.ensures at c.loop-var-test.true in
    let adds = sym c.add_coefficients.ensures ∙ c.in_ok-coefficient.was in
    let at = rw c.as_slice-vars.ensures at c.index-vars-var.is in
    let after = c.still_fit-fit.ensures ∙ ap (λ x. c.loop-var.fit && fits_at c.args.terms.now c.loop-var.var x c.in_ok-coefficient.coefficient) at in
    record {
      within = next.within;
      from_here =
          fit_step c.args.problem.now c.args.earlier.now c.args.entries.now c.args.terms.now c.loop-var.var c.index-vars-var.result c.loop-var.fit _ below c.loop-var.invariant.from_here
          c.in_ok-coefficient.coefficient c.next_of_both-var-in-loop-var.result _ adds after next.later next.within next.none next.no_term;
    }
