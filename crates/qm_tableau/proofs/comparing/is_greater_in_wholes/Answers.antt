use Rattle.std.proofs.Common.{◌∙◌, sym, ap, arith, List, ℤ, ◌<◌, length, suc, ◌*ℤ◌}
use Rattle.std.specs.Ordering.{int_cmp}
use Rattle.std.specs.declared.cmp.Ordering.TheVariants.{Less, Equal, Greater}
use Rattle.qm_tableau.specs.Wholes.{at_place}
use Rattle.qm_tableau.proofs.QuotientOrder.{greater_step}
use Rattle.qm_tableau.proofs.comparing.is_greater_in_wholes.Goals as goal

pub loop-i-preserved : goal.loop-i-preserved
loop-i-preserved c =
    let inside : c.loop-i.i < length c.args.numbers.now.rows = omega (arith, c.loop-i-test.true, c.height-i-end.ensures.count) in
    let at = λ (row : List ℤ). int_cmp (at_place row (suc c.args.k) *ℤ at_place c.args.leaving.now (suc c.args.best)) (at_place row (suc c.args.best) *ℤ at_place c.args.leaving.now (suc c.args.k)) in
    sym (greater_step c.args.k c.args.best c.loop-i.i c.args.numbers.now.width c.args.leaving.now c.args.numbers.now.rows c.requires.row c.requires.rows c.requires.leaving c.height-i-end.ensures.widths
    inside c.requires.k c.requires.best c.requires.by c.requires.best_by Equal (c.in-Equal.ensures ∙ ap at c.row.ensures.row)) ∙ c.loop-i.invariant

pub returns-in-Less : goal.returns-in-Less
returns-in-Less c =
    let inside : c.loop-i.i < length c.args.numbers.now.rows = omega (arith, c.loop-i-test.true, c.height-i-end.ensures.count) in
    let at = λ (row : List ℤ). int_cmp (at_place row (suc c.args.k) *ℤ at_place c.args.leaving.now (suc c.args.best)) (at_place row (suc c.args.best) *ℤ at_place c.args.leaving.now (suc c.args.k)) in
    sym (greater_step c.args.k c.args.best c.loop-i.i c.args.numbers.now.width c.args.leaving.now c.args.numbers.now.rows c.requires.row c.requires.rows c.requires.leaving c.height-i-end.ensures.widths
    inside c.requires.k c.requires.best c.requires.by c.requires.best_by Less (c.in-Less.ensures ∙ ap at c.row.ensures.row)) ∙ c.loop-i.invariant

pub returns-in-Greater : goal.returns-in-Greater
returns-in-Greater c =
    let inside : c.loop-i.i < length c.args.numbers.now.rows = omega (arith, c.loop-i-test.true, c.height-i-end.ensures.count) in
    let at = λ (row : List ℤ). int_cmp (at_place row (suc c.args.k) *ℤ at_place c.args.leaving.now (suc c.args.best)) (at_place row (suc c.args.best) *ℤ at_place c.args.leaving.now (suc c.args.k)) in
    sym (greater_step c.args.k c.args.best c.loop-i.i c.args.numbers.now.width c.args.leaving.now c.args.numbers.now.rows c.requires.row c.requires.rows c.requires.leaving c.height-i-end.ensures.widths
    inside c.requires.k c.requires.best c.requires.by c.requires.best_by Greater (c.in-Greater.ensures ∙ ap at c.row.ensures.row)) ∙ c.loop-i.invariant
