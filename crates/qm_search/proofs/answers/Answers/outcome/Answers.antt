use Rattle.qm_search.proofs.AnswerLaws.{over_outcome, worst_in_window}
use Rattle.qm_search.proofs.answers.Answers.outcome.Goals as goal

pub returns-in-Some : goal.returns-in-Some
returns-in-Some c = λ P cuts heads rest depth bx W first next same proper player are past.
    worst_in_window P cuts heads rest depth bx W first next c.args.self player are past c.in-Some.worst c.in-Some.is

pub returns-in-None : goal.returns-in-None
returns-in-None c = λ P cuts heads rest depth bx W first next same proper player are past.
    over_outcome P cuts heads rest depth bx W first next c.args.self player are past c.in-None.is c.args.cap same c.over.result c.over.ensures
