use Rattle.std.proofs.Common.{ap, sym, ◌∙◌, arith}
use Rattle.std.proofs.lemmas.Result.{err_from_is_err_and}
use Rattle.qm_cuts.specs.Steps.{nothing_seen, seen_with}
use Rattle.qm_cuts.proofs.Deriving.{a_variable}
use Rattle.qm_cuts.proofs.EachVariable.{see_leaves, see_next, see_step}
use Rattle.qm_cuts.proofs.sight.see_each.Goals as goal

pub loop-var-init : goal.loop-var-init
loop-var-init c =
    let next = c.next_variable-var.ensures in
    record {
      within = next.within;
      from_here = rw c.new.ensures (sym (see_next c.args.problem.now c.args.earlier.now c.args.entries.now 0 c.next_variable-var.result nothing_seen (omega arith) next.within next.none));
    }

pub returns-in_err-coefficient : goal.returns-in_err-coefficient
returns-in_err-coefficient c =
    let p = err_from_is_err_and c.from_residual.result c.from_residual.ensures.1 in
    let below = rw c.as_slice-vars.ensures at c.loop-var-test.true in
    let adds = sym c.add_coefficients.ensures ∙ c.in_err-coefficient.was in
    rw (p.1, p.2) (see_leaves c.args.problem.now c.args.earlier.now c.args.entries.now c.loop-var.var a_variable c.loop-var.seen _ below c.loop-var.invariant.from_here _ adds)

pub loop-var-preserved : goal.loop-var-preserved
loop-var-preserved c =
    let next = c.next_variable-var-in-loop-var.ensures in
    let below = rw c.as_slice-vars.ensures at c.loop-var-test.true in
    let adds = sym c.add_coefficients.ensures ∙ c.in_ok-coefficient.was in
    let at = rw c.as_slice-vars.ensures at c.index-vars-var.is in
    let after = c.in_ok-see.ensures ∙ ap (λ x. seen_with c.loop-var.var x c.in_ok-coefficient.coefficient c.loop-var.seen) at in
    record {
      within = next.within;
      from_here =
          see_step c.args.problem.now c.args.earlier.now c.args.entries.now c.loop-var.var c.index-vars-var.result c.loop-var.seen _ below c.loop-var.invariant.from_here c.in_ok-coefficient.coefficient
          c.next_variable-var-in-loop-var.result c.see.new.seen adds after next.later next.within next.none;
    }
