use Rattle.std.proofs.Common.{arith}
use Rattle.std.proofs.lemmas.List.{length-take}
use Rattle.qm_model.proofs.BoxLaws.{IsBox-length}
use Rattle.qm_check.proofs.policies.take_said.Goals as goal

pub choose-requires-clause-inside : goal.choose-requires-clause-inside
choose-requires-clause-inside c =
    let P = c.args.game.now in
    let sound = rw c.problem-problem.ensures.value at c.problem-problem.ensures.sound in
    let next = rw c.in-Choose.is at c.requires.fits in
    omega (arith, next, IsBox-length P.vars c.args.walk.now.bx c.requires.walk.box, length-take P.wholes P.vars, sound.wholes)

pub choose-requires-clause-few : goal.choose-requires-clause-few
choose-requires-clause-few c =
    let P = c.args.game.now in
    let sound = rw c.problem-problem.ensures.value at c.problem-problem.ensures.sound in
    omega (arith, IsBox-length P.vars c.args.walk.now.bx c.requires.walk.box, sound.few_vars)

pub answer-requires : goal.answer-requires
answer-requires c =
    let P = c.args.game.now in
    let sound = rw c.problem-problem.ensures.value at c.problem-problem.ensures.sound in
    let next = rw c.in-Answer.is at c.requires.fits in
    omega (arith, next, IsBox-length P.vars c.args.walk.now.bx c.requires.walk.box, length-take P.wholes P.vars, sound.wholes)

pub leaf_passes-requires-clause-bx : goal.leaf_passes-requires-clause-bx
leaf_passes-requires-clause-bx c = rw c.as_slice.ensures (IsBox-length c.args.game.now.vars c.args.walk.now.bx c.requires.walk.box)
