use Rattle.qm_legal.proofs.Plays.{values_complete}
use Rattle.qm_legal.proofs.at_once.completed_at_once.Goals as goal

pub returns : goal.returns
returns c =
    let P = c.args.here.game.now in
    let depth = c.args.here.depth in
    let sound = rw c.problem-problem.ensures.value at c.problem-problem.ensures.sound in
    let found = c.guess.ensures.guessed c.if-not-guess.false in
    let values = rw c.args.here.from_depth at c.in_ok-completion.ensures in
    values_complete P sound depth c.args.bx.now c.requires c.in_ok-tried.tried c.guess.new.bx c.in_ok-completion.field-0 c.in_ok-tried.ensures found values
