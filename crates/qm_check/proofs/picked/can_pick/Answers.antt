use Rattle.std.proofs.Common.{◌<◌, ◌+◌, sym, ◌∙◌, ap, arith, drop, length}
use Rattle.std.proofs.lemmas.Int.{to_z-of_z}
use Rattle.std.proofs.lemmas.List.{length-drop, length-take}
use mir.Syntax.{w64}
use Rattle.qm_model.specs.declared.game.Problem.{Problem}
use Rattle.qm_model.specs.Plays.{whole_vars}
use Rattle.qm_model.proofs.BoxLaws.{IsBox-length}
use Rattle.qm_check.proofs.Boxes.{picked_is_box}
use Rattle.qm_check.proofs.picked.can_pick.Goals as goal

pub bounds-bx-depth : goal.bounds-bx-depth
bounds-bx-depth c =
    let P = c.args.game.now in
    let sound = rw c.problem-problem.ensures.value at c.problem-problem.ensures.sound in
    omega (arith, c.requires.depth, IsBox-length P.vars c.args.bx.now c.requires.bx, length-take P.wholes P.vars, sound.wholes)

pub behind-requires : goal.behind-requires
behind-requires c =
    let P = c.args.game.now in
    let sound = rw c.problem-problem.ensures.value at c.problem-problem.ensures.sound in
    omega (arith, c.requires.depth, IsBox-length P.vars c.args.bx.now c.requires.bx, length-take P.wholes P.vars, sound.wholes)

pub fits-requires : goal.fits-requires
fits-requires c =
    let P = c.args.game.now in
    let sound = rw c.problem-problem.ensures.value at c.problem-problem.ensures.sound in
    rw (c.later-later.ensures, c.behind.ensures, c.whole_vars.ensures, c.problem-problem.ensures.value)
    (omega (arith, length-drop (c.args.depth + 1) (whole_vars P), length-drop (c.args.depth + 1) c.args.bx.now, IsBox-length P.vars c.args.bx.now c.requires.bx, length-take P.wholes P.vars, sound.wholes))

pub picked_box-requires-clause-bx : goal.picked_box-requires-clause-bx
picked_box-requires-clause-bx c = IsBox-length c.args.game.now.vars c.args.bx.now c.requires.bx ∙ ap (λ (P : Problem). length P.vars) (sym c.problem-problem.ensures.value)

pub uncertainty_holds-requires : goal.uncertainty_holds-requires
uncertainty_holds-requires c =
    let P = c.args.game.now in
    let bx = c.args.bx.now in
    let sound = rw c.problem-problem.ensures.value at c.problem-problem.ensures.sound in
    let inside : c.args.depth < length bx = omega (arith, c.requires.depth, IsBox-length P.vars bx c.requires.bx, length-take P.wholes P.vars, sound.wholes) in
    let value = to_z-of_z w64 c.args.value c.ranges.value in
    let within = rw value at c.contains.ensures in
    let fits = rw (c.later-later.ensures, c.behind.ensures, c.whole_vars.ensures, c.problem-problem.ensures.value) at c.fits.ensures in
    let picked = rw (value, c.problem-problem.ensures.value) at c.in_ok-picked.ensures in
    rw (c.as_slice.ensures, picked)
    (picked_is_box P.vars (drop (c.args.depth + 1) (whole_vars P)) c.args.depth bx c.args.value c.args.completion.now c.requires.bx inside (sym within ∙ c.if-not-contains.false) (sym fits ∙ c.if-not-fits.false))
