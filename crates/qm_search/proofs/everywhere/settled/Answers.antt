use Rattle.std.proofs.Common.{refl, subst}
use Rattle.qm_search.specs.AnswerSteps.{IsRightAnswer}
use Rattle.qm_search.proofs.everywhere.settled.Goals as goal

pub returns-in-Kept-clause-answer : goal.returns-in-Kept-clause-answer
returns-in-Kept-clause-answer c = λ cuts heads first at proper answer.
    let place = c.args.here in
    let W = c.args.window.now in
    c.kept.ensures.answer cuts heads W first at refl proper (subst (IsRightAnswer place.game.now cuts heads place.rest.now place.depth c.args.bx.now W first at) c.in-Kept.is answer)
