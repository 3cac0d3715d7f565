use Rattle.std.proofs.Common.{subst, sym}
use Rattle.qm_search.specs.AnswerSteps.{answer_window}
use Rattle.qm_search.specs.OutcomeSteps.{IsOutcome}
use Rattle.qm_search.proofs.AnswerLaws.{wider_outcome, worst_outcome}
use Rattle.qm_search.proofs.answers.Answers.widened.Goals as goal
use Rattle.qm_search.specs.declared.outcome.Outcome.TheVariants.{At}

pub returns-in-At : goal.returns-in-At
returns-in-At c = λ P cuts heads rest depth bx W first low next proper are outcome.
    let within = subst (IsOutcome P cuts heads rest depth bx (answer_window W c.args.self.worst)) c.in-At.is outcome in
    wider_outcome P cuts heads rest depth bx W first low next proper c.args.self.worst are.worst (At c.in-At.value c.in-At.policy c.in-At.refute) tt within

pub returns : goal.returns
returns c = λ P cuts heads rest depth bx W first low next proper are outcome.
    let above = subst (IsOutcome P cuts heads rest depth bx (answer_window W c.args.self.worst)) c.in-Over.is outcome in
    subst (IsOutcome P cuts heads rest depth bx W) (sym c.at_worst.ensures) (worst_outcome P cuts heads rest depth bx W first low next proper c.args.self.worst are.worst c.in-Over.value c.in-Over.policy above)
