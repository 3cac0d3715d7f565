use Rattle.std.proofs.Common.{arith}
use Rattle.qm_model.proofs.BoxLaws.{IsBox-length}
use Rattle.qm_check.proofs.line.take_part.Goals as goal

pub take_read_range-requires-clause-few : goal.take_read_range-requires-clause-few
take_read_range-requires-clause-few c =
    let P = c.args.game.now in
    let sound = rw c.problem-problem.ensures.value at c.problem-problem.ensures.sound in
    omega (arith, IsBox-length P.vars c.args.walk.now.bx c.requires.walk.box, sound.few_vars)
