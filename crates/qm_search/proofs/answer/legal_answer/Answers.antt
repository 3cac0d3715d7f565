use Rattle.std.proofs.Common.{◌+◌, drop, subst, set}
use Rattle.std.proofs.lemmas.Int.{to_z-of_z}
use mir.Syntax.{w64}
use Rattle.qm_game.specs.Goals.{goal_of}
use Rattle.qm_model.specs.Goals.{Above}
use Rattle.qm_model.specs.Ranges.{single}
use Rattle.qm_search.specs.OutcomeSteps.{IsOutcome}
use Rattle.qm_search.proofs.AnswerLaws.{above_secured}
use Rattle.qm_search.proofs.answer.legal_answer.Goals as goal

pub returns-in_ok-pick-in-Under : goal.returns-in_ok-pick-in-Under
returns-in_ok-pick-in-Under c = λ P cuts heads rest depth bx W first proper player right outcome.
    let refutes = subst (IsOutcome P cuts heads (drop 1 rest) (depth + 1) (set bx depth (single c.args.at)) W) c.in-Under.is outcome in
    (rw (to_z-of_z w64 c.args.at c.ranges.at) at c.in_ok-pick-in-Under.ensures) P cuts heads rest depth bx (goal_of W.floor) player right refutes

pub returns-in_ok-pick-in-At : goal.returns-in_ok-pick-in-At
returns-in_ok-pick-in-At c = λ P cuts heads rest depth bx W first proper player right outcome.
    let within = subst (IsOutcome P cuts heads (drop 1 rest) (depth + 1) (set bx depth (single c.args.at)) W) c.in-At.is outcome in
    record {
      positive = within.reached.positive;
      secures = within.reached.secures;
      refutes = (rw (to_z-of_z w64 c.args.at c.ranges.at) at c.in_ok-pick-in-At.ensures) P cuts heads rest depth bx (Above c.in-At.value) player right within.reached.refutes;
      reaches = within.reaches;
      uncapped = within.uncapped;
    }

pub returns-in-Over : goal.returns-in-Over
returns-in-Over c = λ P cuts heads rest depth bx W first proper player right outcome.
    let above = subst (IsOutcome P cuts heads (drop 1 rest) (depth + 1) (set bx depth (single c.args.at)) W) c.in-Over.is outcome in
    above_secured P rest depth bx W c.args.at c.in-Over.value c.in-Over.policy above
