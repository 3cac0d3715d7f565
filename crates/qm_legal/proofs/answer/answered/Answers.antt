use Rattle.std.proofs.Common.{refl}
use Rattle.qm_legal.proofs.Asking.{answered_at_once}
use Rattle.qm_legal.proofs.OpenBoxes.{open_query}
use Rattle.qm_legal.proofs.answer.answered.Goals as goal

pub closed_at_once-requires : goal.closed_at_once-requires
closed_at_once-requires c = rw c.requires.depth c.requires.bx.query

pub looked_for-requires-clause-still_open : goal.looked_for-requires-clause-still_open
looked_for-requires-clause-still_open c =
    let none = rw c.in-None.is at c.in_ok-tree.ensures in
    open_query c.args.here.game.now c.args.here.depth c.args.bx.now (rw c.requires.depth c.requires.bx.query) none.0 none.1

pub returns-in_err-tree-clause-answered : goal.returns-in_err-tree-clause-answered
returns-in_err-tree-clause-answered c = answered_at_once c.args.here.game.now c.args.named c.args.journal.now c.args.journal.now c.requires.lawful refl

pub returns-in-Some-clause-found : goal.returns-in-Some-clause-found
returns-in-Some-clause-found c = (rw c.in-Some.is at c.in_ok-tree.ensures, refl)

pub returns-in-Some-clause-answered : goal.returns-in-Some-clause-answered
returns-in-Some-clause-answered c = answered_at_once c.args.here.game.now c.args.named c.args.journal.now c.args.journal.now c.requires.lawful refl
