use Rattle.std.proofs.Common.{drop}
use Rattle.qm_legal.proofs.Parts.{dead_is_part}
use Rattle.qm_legal.proofs.part.dead_part.Goals as goal

pub returns-clause-part : goal.returns-clause-part
returns-clause-part c =
    let P = c.args.here.game.now in
    let sound = rw c.problem-problem.ensures.value at c.problem-problem.ensures.sound in
    dead_is_part P (drop 1 c.args.here.rest.now) c.args.here.depth c.args.bx.now sound c.requires.bx c.args.run c.dead_range-range.result c.requires.run c.args.within.high c.requires.within
    c.args.number c.in_ok-below.below c.part_of.result c.dead_range-range.ensures.run c.in_ok-below.ensures c.part_of.ensures.range c.part_of.ensures.below
