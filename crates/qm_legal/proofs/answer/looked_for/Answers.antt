use Rattle.std.proofs.Common.{refl}
use Rattle.qm_legal.proofs.Asking.{answered_at_once, answered_by, begins, restricted_by}
use Rattle.qm_legal.proofs.answer.looked_for.Goals as goal

pub guess-requires : goal.guess-requires
guess-requires c = rw c.in_ok-tried.ensures c.requires.still_open

pub guide-requires : goal.guide-requires
guide-requires c = c.requires.still_open.alive.box

pub search-requires : goal.search-requires
search-requires c =
    let P = c.args.here.game.now in
    let sound = rw c.problem-problem.ensures.value at c.problem-problem.ensures.sound in
    let restricted = restricted_by P (c.guess.ensures.restricted c.if-guess.false) in
    rw c.query_of.ensures (begins P sound c.args.journal.now c.requires.lawful restricted c.args.named c.args.here.depth c.args.bx.now c.requires.depth c.requires.new c.requires.bx c.requires.still_open)

pub returns-in_err-tried-clause-answered : goal.returns-in_err-tried-clause-answered
returns-in_err-tried-clause-answered c = answered_at_once c.args.here.game.now c.args.named c.args.journal.now c.args.journal.now c.requires.lawful refl

pub returns-then-guess-clause-found : goal.returns-then-guess-clause-found
returns-then-guess-clause-found c = rw c.in_ok-tried.ensures at (c.guess.ensures.guessed c.if-guess.true)

pub returns-then-guess-clause-answered : goal.returns-then-guess-clause-answered
returns-then-guess-clause-answered c = answered_at_once c.args.here.game.now c.args.named c.args.journal.now c.args.journal.now c.requires.lawful refl

pub returns-in_err-guide-clause-answered : goal.returns-in_err-guide-clause-answered
returns-in_err-guide-clause-answered c = answered_at_once c.args.here.game.now c.args.named c.args.journal.now c.args.journal.now c.requires.lawful refl

pub returns-clause-answered : goal.returns-clause-answered
returns-clause-answered c =
    let P = c.args.here.game.now in
    let restricted = restricted_by P (c.guess.ensures.restricted c.if-guess.false) in
    let grown = rw c.query_of.ensures at c.search.ensures.grown in
    answered_by P c.args.named c.args.journal.now c.search.new.journal restricted grown

pub returns-clause-spent : goal.returns-clause-spent
returns-clause-spent c = λ e. (c.search.ensures.spent e, restricted_by c.args.here.game.now (c.guess.ensures.restricted c.if-guess.false))
