use Rattle.std.proofs.Common.{[], eqb-true, length, subst, sym}
use Rattle.qm_search.specs.OutcomeSteps.{IsOutcome}
use Rattle.qm_search.proofs.EndBoxes.{end_entered, end_place, nothing_left}
use Rattle.qm_search.proofs.judge.judge.Goals as goal

pub leaf-requires-clause-place : goal.leaf-requires-clause-place
leaf-requires-clause-place c =
    let none = eqb-true (length c.args.here.rest.now) 0 (sym c.if-is_empty.ensures) in
    end_place c.args.here.game.now c.args.here.rest.now c.args.here.depth c.args.bx.now c.args.here.from_depth none c.requires.place

pub leaf-requires-clause-entered : goal.leaf-requires-clause-entered
leaf-requires-clause-entered c =
    let none = eqb-true (length c.args.here.rest.now) 0 (sym c.if-is_empty.ensures) in
    end_entered c.args.here.game.now c.args.here.rest.now c.args.here.depth c.args.bx.now c.args.here.from_depth none c.requires.place

pub returns-then-is_empty-clause-judged : goal.returns-then-is_empty-clause-judged
returns-then-is_empty-clause-judged c =
    let P = c.args.here.game.now in
    let depth = c.args.here.depth in
    let bx = c.args.bx.now in
    let none = eqb-true (length c.args.here.rest.now) 0 (sym c.if-is_empty.ensures) in
    let outcome = c.within.ensures P [] [] [] depth bx c.requires.place.box.sound.scale_positive c.requires.window (c.in_ok-played.ensures.played depth) in
    subst (λ rest. IsOutcome P [] [] rest depth bx c.args.window.now c.within.result) (sym (nothing_left c.args.here.rest.now none)) outcome

pub returns-clause-judged : goal.returns-clause-judged
returns-clause-judged c = c.in_ok-judged_by_relaxation.ensures c.args.window.now.cap
