use Rattle.std.proofs.Common.{[], refl, subst}
use Rattle.qm_game.specs.Goals.{goal_of}
use Rattle.qm_relax.specs.Answers.{IsRight, without_point}
use Rattle.qm_relax.specs.declared.answers.RelaxedPoint.{RelaxedPoint}
use Rattle.qm_trees.specs.declared.refutation.Refute.{Close}
use Rattle.qm_search.proofs.DeadRows.{refutes_by}
use Rattle.qm_search.proofs.OpenBoxes.{known_open}
use Rattle.qm_search.proofs.judge.judged_by_relaxation.Goals as goal

pub returns-then-is_open_by : goal.returns-then-is_open_by
returns-then-is_open_by c = λ cap.
    let holds = c.is_open_by.ensures c.if-is_open_by.true in
    (record { some = c.requires.some; clear = c.requires.clear; unclosed = known_open c.args.here.game.now c.args.bx.now c.args.known.now c.requires.known holds }, tt)

pub returns-in-Closed : goal.returns-in-Closed
returns-in-Closed c = λ cap.
    let P = c.args.here.game.now in
    let bx = c.args.bx.now in
    let floor = goal_of c.args.floor.now in
    let combo = c.in-Closed.combo in
    let sound = rw c.problem-problem.ensures.value at c.problem-problem.ensures.sound in
    let form = rw c.entries-form.ensures.value at c.entries-form.ensures.well_formed in
    let closes = subst (λ (answer : RelaxedPoint). IsRight P [] bx floor (without_point answer)) c.in-Closed.is c.in_ok-combo.ensures.right in
    refutes_by P [] [] c.args.here.rest.now c.args.here.depth bx floor combo (Close combo) sound c.floor_is_proper.ensures form closes.named closes.closes refl
