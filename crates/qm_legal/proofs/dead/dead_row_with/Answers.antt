use Rattle.std.proofs.Common.{refl}
use Rattle.qm_cover.proofs.Places.{put_back}
use Rattle.qm_legal.proofs.Boxes.{set_in_box}
use Rattle.qm_legal.proofs.OtherRows.{others_alive}
use Rattle.qm_legal.proofs.dead.dead_row_with.Goals as goal

pub first_dead_by-answer-requires-clause-bx : goal.first_dead_by-answer-requires-clause-bx
first_dead_by-answer-requires-clause-bx c =
    rw c.put.ensures (set_in_box c.args.here.game.now.vars c.args.bx.now c.args.here.depth c.args.range c.requires.bx c.requires.inside)

pub first_dead_by-answer-requires-clause-others : goal.first_dead_by-answer-requires-clause-others
first_dead_by-answer-requires-clause-others c =
    let P = c.args.here.game.now in
    let sound = rw c.problem-problem.ensures.value at c.problem-problem.ensures.sound in
    rw (c.put.ensures, c.as_slice.ensures, c.problem-problem.ensures.value)
    (others_alive P.vars c.args.bx.now c.args.here.depth c.args.range c.requires.bx (set_in_box P.vars c.args.bx.now c.args.here.depth c.args.range c.requires.bx c.requires.inside)
    P.urows sound.urows c.requires.alive)

pub put-requires-2-clause-bx : goal.put-requires-2-clause-bx
put-requires-2-clause-bx c =
    rw c.put.ensures (set_in_box c.args.here.game.now.vars c.args.bx.now c.args.here.depth c.args.range c.requires.bx c.requires.inside)

pub returns-clause-same : goal.returns-clause-same
returns-clause-same c =
    put_back c.args.bx.now c.put.new.bx c.put.new.bx c.put-2.new.bx c.args.here.depth c.args.range c.range-before.result
    c.put.ensures refl c.put-2.ensures c.range-before.ensures
