use Rattle.std.proofs.Common.{map, ap, ◌∙◌, arith}
use Rattle.std.specs.Result.{result_ok}
use Rattle.qm_normal.specs.Rows.{is_constant, total}
use Rattle.qm_normal.specs.SumSteps.{maximised_term}
use Rattle.qm_normal.proofs.SumsSoFar.{constant_last}
use Rattle.qm_normal.proofs.TermSteps.{constant_gone, constant_put}
use Rattle.qm_normal.proofs.MaximisedTerms.{maximised_is, maximised_at, maximised_end, maximised_inside}
use Rattle.qm_normal.proofs.totals.total_of_constants.Goals as goal

pub returns-in-None : goal.returns-in-None
returns-in-None c =
    let inside = maximised_inside c.args.sense c.args.terms.now c.loop-term.term-index (omega arith) in
    let at = maximised_at c.args.sense c.args.terms.now c.loop-term.term-index c.term-item.result c.maximised_term-term.result (omega arith) c.term-item.is c.maximised_term-term.ensures in
    constant_gone (map (maximised_term c.args.sense) c.args.terms.now) c.loop-term.term-index c.maximised_term-term.result c.loop-term.sum _ inside at c.in-None.ensures c.loop-term.invariant
    ∙ ap (λ terms. result_ok (total is_constant terms)) (maximised_is c.args.sense c.args.terms.now)

pub loop-term-preserved : goal.loop-term-preserved
loop-term-preserved c =
    let inside = maximised_inside c.args.sense c.args.terms.now c.loop-term.term-index (omega arith) in
    let at = maximised_at c.args.sense c.args.terms.now c.loop-term.term-index c.term-item.result c.maximised_term-term.result (omega arith) c.term-item.is c.maximised_term-term.ensures in
    constant_put (map (maximised_term c.args.sense) c.args.terms.now) c.loop-term.term-index c.maximised_term-term.result c.loop-term.sum c.in-Some.more _ inside at c.in-Some.ensures c.loop-term.invariant

pub returns : goal.returns
returns c =
    constant_last is_constant (map (maximised_term c.args.sense) c.args.terms.now) c.loop-term.term-index c.loop-term.sum _ (maximised_end c.args.sense c.args.terms.now c.loop-term.term-index (omega arith)) c.loop-term.invariant
    ∙ ap (λ terms. result_ok (total is_constant terms)) (maximised_is c.args.sense c.args.terms.now)
