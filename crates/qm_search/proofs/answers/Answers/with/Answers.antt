use Rattle.std.proofs.Common.{subst}
use Rattle.std.proofs.lemmas.Int.{to_z-of_z}
use mir.Syntax.{w64}
use Rattle.qm_search.specs.AnswerSteps.{IsReply, answer_window}
use Rattle.qm_search.proofs.answers.Answers.with.Goals as goal

pub returns-in-Illegal : goal.returns-in-Illegal
returns-in-Illegal c = λ P cuts heads rest depth bx W first low proper are reply.
    let same = to_z-of_z w64 c.args.at c.ranges.at in
    let illegal = subst (IsReply P cuts heads rest depth bx (answer_window W c.args.self.worst) first c.args.at) c.in-Illegal.is reply in
    (rw same at c.illegal.ensures) P cuts heads rest depth bx W first low are illegal

pub returns-in-Secured : goal.returns-in-Secured
returns-in-Secured c = λ P cuts heads rest depth bx W first low proper are reply.
    let same = to_z-of_z w64 c.args.at c.ranges.at in
    let secured = subst (IsReply P cuts heads rest depth bx (answer_window W c.args.self.worst) first c.args.at) c.in-Secured.is reply in
    (rw same at c.secured.ensures) P cuts heads rest depth bx W first low are secured

pub returns-in-Reached : goal.returns-in-Reached
returns-in-Reached c = λ P cuts heads rest depth bx W first low proper are reply.
    let same = to_z-of_z w64 c.args.at c.ranges.at in
    let reached = subst (IsReply P cuts heads rest depth bx (answer_window W c.args.self.worst) first c.args.at) c.in-Reached.is reply in
    (rw same at c.reached.ensures) P cuts heads rest depth bx W first low proper are reached
