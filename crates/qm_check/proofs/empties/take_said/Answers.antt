use Rattle.std.proofs.Common.{arith}
use Rattle.std.proofs.lemmas.List.{length-take}
use Rattle.qm_model.proofs.BoxLaws.{IsBox-length}
use Rattle.qm_check.proofs.empties.take_said.Goals as goal

pub split-requires : goal.split-requires
split-requires c =
    let P = c.args.game.now in
    let sound = rw c.problem-problem.ensures.value at c.problem-problem.ensures.sound in
    let whole = rw c.in-Split.is at c.requires.fits in
    omega (arith, whole, IsBox-length P.vars c.args.walk.now.bx c.requires.walk.box, length-take P.wholes P.vars, sound.wholes)

pub closes_empty-requires-clause-bx : goal.closes_empty-requires-clause-bx
closes_empty-requires-clause-bx c = rw c.as_slice.ensures (IsBox-length c.args.game.now.vars c.args.walk.now.bx c.requires.walk.box)
