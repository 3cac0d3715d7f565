use Rattle.std.proofs.Common.{rules, ◌≡◌, subst, to_z, of_z}
use mir.Syntax.{w64}
use Rattle.qm_game.specs.Goals.{goal_of}
use Rattle.qm_search.specs.ChoiceSteps.{floor_beyond}
use Rattle.qm_search.specs.OutcomeSteps.{Refutes}
use Rattle.qm_trees.specs.declared.refutation.Refute.{Over}
use Rattle.qm_search.proofs.ChoiceLaws.{over_refutes, best_in_window}
use Rattle.qm_search.proofs.choices.Choices.outcome.Goals as goal

pub returns-in-None : goal.returns-in-None
returns-in-None c = λ P cuts heads rest depth bx W next player are past.
    subst (λ best. Refutes P cuts heads rest depth bx (goal_of (floor_beyond W.floor best)) (Over c.args.self.parts)) c.in-None.is (over_refutes P cuts heads rest depth bx W c.args.self next player are past)

pub returns-in_ok-choose-in-Some : goal.returns-in_ok-choose-in-Some
returns-in_ok-choose-in-Some c = λ P cuts heads rest depth bx W next player are past.
    let best = c.in-Some.best in
    let choice : to_z w64 (of_z w64 best.choice) ≡ best.choice = search rules in
    rw (c.in_ok-choose-in-Some.ensures, choice) (best_in_window P cuts heads rest depth bx W c.args.self next player are past best c.in-Some.is)
