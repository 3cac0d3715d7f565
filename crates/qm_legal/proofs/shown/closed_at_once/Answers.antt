use Rattle.std.proofs.Common.{sym, ◌∙◌, arith}
use Rattle.std.proofs.lemmas.List.{length-take}
use Rattle.qm_model.proofs.BoxLaws.{IsBox-length}
use Rattle.qm_legal.proofs.RightTrees.{dead_shows, empty_shows}
use Rattle.qm_legal.proofs.shown.closed_at_once.Goals as goal

pub some_universal_empty-requires : goal.some_universal_empty-requires
some_universal_empty-requires c =
    let P = c.args.here.game.now in
    let wholes = rw (c.at-first.ensures.game, c.at-first.ensures.depth) at c.at-first.result.from_depth in
    rw (wholes, c.as_slice.ensures) (omega (arith, length-take P.wholes P.vars, IsBox-length P.vars c.args.bx.now c.requires.box))

pub returns-then-some_universal_empty : goal.returns-then-some_universal_empty
returns-then-some_universal_empty c =
    let wholes = rw (c.at-first.ensures.game, c.at-first.ensures.depth) at c.at-first.result.from_depth in
    let some = rw (wholes, c.as_slice.ensures) at c.some_universal_empty.ensures in
    empty_shows c.args.here.game.now c.args.here.rest.now c.args.here.depth c.args.bx.now c.closed_by_range.result (sym some ∙ c.if-some_universal_empty.true) c.closed_by_range.ensures

pub returns-in_ok-closed_by-in-Some : goal.returns-in_ok-closed_by-in-Some
returns-in_ok-closed_by-in-Some c =
    let sound = rw c.problem-problem.ensures.value at c.problem-problem.ensures.sound in
    dead_shows c.args.here.game.now c.args.here.rest.now c.args.here.depth c.args.bx.now c.in_ok-closed_by-in-Some.field-0 c.in-Some.number sound c.requires.box c.in-Some.ensures.has c.in_ok-closed_by-in-Some.ensures

pub returns-in-None : goal.returns-in-None
returns-in-None c =
    let wholes = rw (c.at-first.ensures.game, c.at-first.ensures.depth) at c.at-first.result.from_depth in
    let some = rw (wholes, c.as_slice.ensures) at c.some_universal_empty.ensures in
    (sym some ∙ c.if-some_universal_empty.false, c.in-None.ensures)
