use Rattle.std.proofs.Common.{subst}
use Rattle.std.proofs.lemmas.Bool.{iff_false}
use Rattle.qm_game.specs.Goals.{goal_of}
use Rattle.qm_model.specs.Goals.{Any, Above}
use Rattle.qm_search.specs.OutcomeSteps.{IsPlayed}
use Rattle.qm_search.proofs.HarderGoals.{refutes_harder, unreached}
use Rattle.qm_search.proofs.played.Played.within.Goals as goal

pub returns-then-not-reaches : goal.returns-then-not-reaches
returns-then-not-reaches c = λ P cuts heads rest depth bx scale window played.
    let floor = c.args.window.now.floor in
    let value = c.in-Reached.value in
    let reached = subst (IsPlayed P cuts heads rest depth bx) c.in-Reached.is played in
    let order = unreached value floor (iff_false c.reaches.ensures c.if-not-reaches.true) in
    refutes_harder P cuts heads rest depth bx (Above value) (goal_of floor) c.in-Reached.refute scale reached.positive window.floor order reached.refutes

pub returns-in-Lost : goal.returns-in-Lost
returns-in-Lost c = λ P cuts heads rest depth bx scale window played.
    let lost = subst (IsPlayed P cuts heads rest depth bx) c.in-Lost.is played in
    refutes_harder P cuts heads rest depth bx Any (goal_of c.args.window.now.floor) c.in-Lost.refute scale tt window.floor tt lost
