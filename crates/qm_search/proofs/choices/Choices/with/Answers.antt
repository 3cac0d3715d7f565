use Rattle.std.proofs.Common.{subst, drop, ◌+◌, slice_set}
use Rattle.std.proofs.lemmas.Int.{to_z-of_z}
use mir.Syntax.{w64}
use Rattle.qm_model.specs.Ranges.{single}
use Rattle.qm_search.specs.ChoiceSteps.{choice_window}
use Rattle.qm_search.specs.OutcomeSteps.{IsOutcome}
use Rattle.qm_search.proofs.ChoiceLaws.{choice_secures}
use Rattle.qm_search.proofs.choices.Choices.with.Goals as goal

pub returns-in_ok-refuted-in-Under : goal.returns-in_ok-refuted-in-Under
returns-in_ok-refuted-in-Under c = λ P cuts heads rest depth bx W low scale proper player from within are outcome.
    let same = to_z-of_z w64 c.args.choice c.ranges.choice in
    let under = subst (IsOutcome P cuts heads (drop 1 rest) (depth + 1) (slice_set bx depth (single c.args.choice)) (choice_window W c.args.self.best)) c.in-Under.is outcome in
    (rw same at c.in_ok-refuted-in-Under.ensures) P cuts heads (drop 1 rest) depth bx W low scale proper are under

pub returns-in_ok-reached-in-At : goal.returns-in_ok-reached-in-At
returns-in_ok-reached-in-At c = λ P cuts heads rest depth bx W low scale proper player from within are outcome.
    let same = to_z-of_z w64 c.args.choice c.ranges.choice in
    let at = subst (IsOutcome P cuts heads (drop 1 rest) (depth + 1) (slice_set bx depth (single c.args.choice)) (choice_window W c.args.self.best)) c.in-At.is outcome in
    (rw same at c.in_ok-reached-in-At.ensures) P cuts heads (drop 1 rest) depth bx W low scale proper from are at

pub returns-in_ok-choose-in-Over : goal.returns-in_ok-choose-in-Over
returns-in_ok-choose-in-Over c = λ P cuts heads rest depth bx W low scale proper player from within are outcome.
    let same = to_z-of_z w64 c.args.choice c.ranges.choice in
    let over = subst (IsOutcome P cuts heads (drop 1 rest) (depth + 1) (slice_set bx depth (single c.args.choice)) (choice_window W c.args.self.best)) c.in-Over.is outcome in
    record {
      positive = over.positive;
      secures = rw (c.in_ok-choose-in-Over.ensures, same) (choice_secures P rest depth bx c.args.choice c.in-Over.value c.in-Over.policy player within over.secures);
      capped = over.capped;
    }
