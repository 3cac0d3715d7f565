use Rattle.std.proofs.Common.{◌≡◌, ◌+◌, List, drop, length, map, replicate, Some, None, pos, ap, subst, ◌∙◌, rules, arith}
use Rattle.std.proofs.lemmas.List.{with_items_is}
use Rattle.std.specs.Result.{result_ok}
use Rattle.qm_math.specs.Fraction.{Fraction, whole}
use Rattle.qm_parse.specs.declared.ast.AstTerm.{AstTerm}
use Rattle.qm_normal.specs.Rows.{totals}
use Rattle.qm_normal.specs.SumSteps.{added_at, maximised_term}
use Rattle.qm_normal.proofs.SumsSoFar.{onto, onto-start, turn_last}
use Rattle.qm_normal.proofs.TermSteps.{count_kept, term_left, term_put}
use Rattle.qm_normal.proofs.MaximisedTerms.{maximised_is, maximised_at, maximised_end, maximised_inside}
use Rattle.qm_normal.proofs.totals.totals.Goals as goal

pub loop-term-init : goal.loop-term-init
loop-term-init c =
    let zeros : c.in_ok-sums.sums.items ≡ replicate (length c.args.order.now) (whole (pos 0)) = search rules in
    let terms = map (maximised_term c.args.sense) c.args.terms.now in
    record {
      sums = ap (λ (sums : List Fraction). onto c.args.order.now sums terms) zeros ∙ onto-start c.args.order.now terms;
      count = search rules;
    }

pub returns-then-not-add_at-clause-sums : goal.returns-then-not-add_at-clause-sums
returns-then-not-add_at-clause-sums c =
    let inside = maximised_inside c.args.sense c.args.terms.now c.loop-term.term-index (omega arith) in
    let at = maximised_at c.args.sense c.args.terms.now c.loop-term.term-index c.term-item.result c.maximised_term-term.result (omega arith) c.term-item.is c.maximised_term-term.ensures in
    subst (λ (terms : List AstTerm). result_ok (totals c.args.order.now terms) ≡ None) (maximised_is c.args.sense c.args.terms.now)
    (term_left c.args.order.now c.args.places.now (map (maximised_term c.args.sense) c.args.terms.now) c.loop-term.term-index c.maximised_term-term.result c.place_of.result c.loop-term.sums.items _ c.requires.places c.requires.apart inside at
    c.place_of.ensures (rw c.deref_mut.ensures.value at c.if-not-add_at.ensures) c.loop-term.invariant.sums)

pub loop-term-preserved : goal.loop-term-preserved
loop-term-preserved c =
    let inside = maximised_inside c.args.sense c.args.terms.now c.loop-term.term-index (omega arith) in
    let at = maximised_at c.args.sense c.args.terms.now c.loop-term.term-index c.term-item.result c.maximised_term-term.result (omega arith) c.term-item.is c.maximised_term-term.ensures in
    let made : Some c.add_at.new.sums ≡ added_at c.loop-term.sums.items c.place_of.result c.maximised_term-term.result.coef = rw c.deref_mut.ensures.value at c.if-not-add_at.ensures in
    let items = with_items_is c.loop-term.sums c.add_at.new.sums (omega arith) in
    record {
      sums =
          ap (λ (sums : List Fraction). onto c.args.order.now sums (drop (c.loop-term.term-index + 1) (map (maximised_term c.args.sense) c.args.terms.now))) items
          ∙ term_put c.args.order.now c.args.places.now (map (maximised_term c.args.sense) c.args.terms.now) c.loop-term.term-index c.maximised_term-term.result c.place_of.result c.loop-term.sums.items c.add_at.new.sums _ c.requires.places c.requires.apart inside at
          c.place_of.ensures made c.loop-term.invariant.sums;
      count =
          ap (length {A = Fraction}) items ∙ count_kept c.loop-term.sums.items c.add_at.new.sums c.place_of.result c.maximised_term-term.result.coef made ∙ c.loop-term.invariant.count;
    }

pub returns-clause-sums : goal.returns-clause-sums
returns-clause-sums c =
    subst (λ (terms : List AstTerm). result_ok (totals c.args.order.now terms) ≡ Some c.loop-term.sums.items) (maximised_is c.args.sense c.args.terms.now)
    (turn_last c.args.order.now c.loop-term.sums.items (map (maximised_term c.args.sense) c.args.terms.now) c.loop-term.term-index _ (maximised_end c.args.sense c.args.terms.now c.loop-term.term-index (omega arith)) c.loop-term.invariant.count c.loop-term.invariant.sums)
