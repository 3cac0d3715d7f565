use Rattle.std.proofs.Common.{◌+◌, refl, set}
use Rattle.std.proofs.lemmas.Int.{to_z-of_z}
use mir.Syntax.{w64}
use Rattle.qm_model.specs.declared.variable.Player.TheVariants.{All as Universal}
use Rattle.qm_model.specs.Ranges.{single}
use Rattle.qm_cover.proofs.Places.{put_back}
use Rattle.qm_legal.proofs.Places.{some_next}
use Rattle.qm_search.proofs.OpenBoxes.{entered_set, judge_place}
use Rattle.qm_search.proofs.SearchBoxes.{next_box}
use Rattle.qm_search.proofs.looks.judged_behind.Goals as goal

pub judge-judged-requires-clause-place : goal.judge-judged-requires-clause-place
judge-judged-requires-clause-place c =
    let P = c.args.here.game.now in
    let rest = c.args.here.rest.now in
    let depth = c.args.here.depth in
    let bx = c.args.bx.now in
    let v = c.args.value in
    let next = next_box P rest depth bx c.args.here.from_depth (some_next Universal rest c.requires.player) c.requires.bx v c.requires.within in
    let place = judge_place P (depth + 1) (set bx depth (single v)) c.args.later.now (record { box = next; completes = c.requires.completes }) (entered_set P depth bx v c.requires.entered) in
    rw (c.behind.ensures.game, c.behind.ensures.depth, c.put.ensures, c.single.ensures, to_z-of_z w64 v c.ranges.value) place

pub put-requires-2-clause-bx : goal.put-requires-2-clause-bx
put-requires-2-clause-bx c =
    let rest = c.args.here.rest.now in
    let next = next_box c.args.here.game.now rest c.args.here.depth c.args.bx.now c.args.here.from_depth (some_next Universal rest c.requires.player) c.requires.bx c.args.value c.requires.within in
    rw (c.put.ensures, c.single.ensures, to_z-of_z w64 c.args.value c.ranges.value) next.box

pub returns-clause-same : goal.returns-clause-same
returns-clause-same c =
    put_back c.args.bx.now c.put.new.bx c.put.new.bx c.put-2.new.bx c.args.here.depth c.single.result c.range-before.result c.put.ensures refl c.put-2.ensures c.range-before.ensures
