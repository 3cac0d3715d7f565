use Rattle.std.proofs.Common.{◌+◌, ◌*◌, [], drop, length, ◌+ℤ◌, ◌≤ℤ◌, ◌<ℤ◌, pos}
use Rattle.qm_search.specs.AnswerSteps.{AreAnswers}
use Rattle.qm_search.specs.ChoiceSteps.{AreChoices}
use Rattle.qm_search.specs.PlaceSteps.{next_value}
use Rattle.qm_search.specs.VisitSteps.{Moved, WentAmong}
use Rattle.qm_search.proofs.walk.+search.Given as goal

abbrev pub decreases-enter : goal.decreases-enter
decreases-enter l = 10 * length l.here.rest.now + 9

abbrev pub decreases-look_into : goal.decreases-look_into
decreases-look_into l = 10 * length l.here.rest.now + 8

abbrev pub decreases-visit : goal.decreases-visit
decreases-visit l = 10 * length l.here.rest.now + 7

abbrev pub decreases-best_choice : goal.decreases-best_choice
decreases-best_choice l = 10 * length l.here.rest.now + 5

abbrev pub decreases-worst_answer : goal.decreases-worst_answer
decreases-worst_answer l = 10 * length l.here.rest.now + 6

abbrev pub decreases-worst_from : goal.decreases-worst_from
decreases-worst_from l = 10 * length l.here.rest.now + 5

abbrev pub decreases-best_before : goal.decreases-best_before
decreases-best_before l = 10 * length l.here.rest.now + 4

abbrev pub decreases-worst_before : goal.decreases-worst_before
decreases-worst_before l = 10 * length l.here.rest.now + 4

abbrev pub decreases-choices_in : goal.decreases-choices_in
decreases-choices_in l = 10 * length l.here.rest.now + 3

abbrev pub decreases-answers_in : goal.decreases-answers_in
decreases-answers_in l = 10 * length l.here.rest.now + 3

abbrev pub decreases-answer_to : goal.decreases-answer_to
decreases-answer_to l = 10 * length l.here.rest.now + 1

abbrev pub decreases-child : goal.decreases-child
decreases-child l = 10 * length l.here.rest.now

abbrev pub invariant-choices_in-loop-choice : goal.invariant-choices_in-loop-choice
invariant-choices_in-loop-choice l = record {
  from : l.fn.values.low ≤ℤ l.choice;
  to : l.fn.values.low <ℤ l.choice → l.choice ≤ℤ (l.fn.values.high +ℤ pos 1);
  moved : Moved l.here.game.now (WentAmong l.entry l.fn.values.low l.choice) l.fn.search l.search;
  choices : AreChoices l.here.game.now [] [] (drop 1 l.here.rest.now) l.here.depth l.fn.search.bx l.window l.fn.values.low l.choice l.choices;
}

abbrev pub invariant-answers_in-loop-value : goal.invariant-answers_in-loop-value
invariant-answers_in-loop-value l = record {
  from : l.fn.values.low ≤ℤ l.value;
  to : l.fn.values.low <ℤ l.value → l.value ≤ℤ (l.fn.values.high +ℤ pos 1);
  moved : Moved l.here.game.now (WentAmong l.entry l.fn.values.low l.value) l.fn.search l.search;
  answers : AreAnswers l.here.game.now [] [] l.here.rest.now l.here.depth l.fn.search.bx l.window (next_value l.completion) l.fn.values.low l.value l.answers;
}
