use Rattle.std.proofs.Common.{◌+◌, drop, set, subst}
use Rattle.std.proofs.lemmas.Int.{to_z-of_z}
use mir.Syntax.{w64}
use Rattle.qm_game.specs.Goals.{goal_of}
use Rattle.qm_model.specs.Ranges.{single}
use Rattle.qm_search.specs.JudgeSteps.{IsJudged}
use Rattle.qm_search.proofs.RightPicks.{right_pick}
use Rattle.qm_search.proofs.looks.looked_at.Goals as goal

pub returns-in_ok-closed-in-Known-clause-seen : goal.returns-in_ok-closed-in-Known-clause-seen
returns-in_ok-closed-in-Known-clause-seen c =
    let P = c.args.here.game.now in
    let rest = c.args.here.rest.now in
    let depth = c.args.here.depth in
    let bx = c.args.bx.now in
    let v = c.args.value in
    let W = c.args.window.now in
    let same = to_z-of_z w64 v c.ranges.value in
    let completes = rw (c.in-Some.is, same) at c.in_ok-later.ensures.found in
    let right = right_pick rest c.args.here.from_depth c.requires.player c.requires.place.box v c.requires.within c.in-Some.later completes in
    let judged = rw (same, c.later_of.ensures.same) at c.in_ok-outcome.ensures.judged in
    let outcome = subst (IsJudged P (drop 1 rest) (depth + 1) (set bx depth (single v)) W) c.in-Known.is judged in
    (rw same at c.in_ok-closed-in-Known.ensures) P rest depth bx W c.requires.window c.requires.player right outcome

pub returns-in-Open-clause-seen : goal.returns-in-Open-clause-seen
returns-in-Open-clause-seen c =
    let P = c.args.here.game.now in
    let rest = c.args.here.rest.now in
    let depth = c.args.here.depth in
    let bx = c.args.bx.now in
    let v = c.args.value in
    let W = c.args.window.now in
    let judged = rw (to_z-of_z w64 v c.ranges.value, c.later_of.ensures.same) at c.in_ok-outcome.ensures.judged in
    let behind = set bx depth (single v) in
    let may = subst (IsJudged P (drop 1 rest) (depth + 1) behind W) c.in-Open.is judged in
    c.bounded.ensures P rest depth bx behind (goal_of W.floor) W may.1
