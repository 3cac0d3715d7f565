use Rattle.std.proofs.Common.{arith}
use Rattle.std.proofs.lemmas.List.{length-take}
use Rattle.qm_model.proofs.BoxLaws.{IsBox-length}
use Rattle.qm_check.proofs.refutes.take_said.Goals as goal

pub over-requires-clause-inside : goal.over-requires-clause-inside
over-requires-clause-inside c =
    let P = c.args.game.now in
    let sound = rw c.problem-problem.ensures.value at c.problem-problem.ensures.sound in
    let next = rw c.in-Over.is at c.requires.fits in
    omega (arith, next, IsBox-length P.vars c.args.walk.now.bx c.requires.walk.box, length-take P.wholes P.vars, sound.wholes)

pub closes_here-requires-clause-bx : goal.closes_here-requires-clause-bx
closes_here-requires-clause-bx c = rw c.as_slice-in-Close.ensures (IsBox-length c.args.game.now.vars c.args.walk.now.bx c.requires.walk.box)
