use Rattle.std.proofs.Common.{subst}
use Rattle.qm_search.specs.AnswerSteps.{IsReply}
use Rattle.qm_search.proofs.everywhere.kept.Goals as goal

pub returns-in-Reached-clause-answer : goal.returns-in-Reached-clause-answer
returns-in-Reached-clause-answer c = λ cuts heads W first at same proper reply.
    let place = c.args.here in
    c.reached.ensures.answer cuts heads W first at (subst (IsReply place.game.now cuts heads place.rest.now place.depth c.args.bx.now W first at) c.in-Reached.is reply)

pub returns-in-Secured-clause-answer : goal.returns-in-Secured-clause-answer
returns-in-Secured-clause-answer c = λ cuts heads W first at same proper reply.
    let place = c.args.here in
    c.secured.ensures.answer cuts heads W first at same proper (subst (IsReply place.game.now cuts heads place.rest.now place.depth c.args.bx.now W first at) c.in-Secured.is reply)
