use Rattle.std.proofs.Common.{arith}
use Rattle.std.proofs.lemmas.List.{length-drop, length-take}
use Rattle.qm_model.specs.Plays.{whole_vars}
use Rattle.qm_model.proofs.BoxLaws.{IsBox-length}
use Rattle.qm_legal.proofs.completion.completion.Goals as goal

pub ranges_from-requires : goal.ranges_from-requires
ranges_from-requires c =
    let P = c.args.here.game.now in
    let sound = rw c.problem-problem.ensures.value at c.problem-problem.ensures.sound in
    rw c.as_slice.ensures (omega (arith, IsBox-length P.vars c.args.bx.now c.requires.bx, sound.wholes, c.requires.depth))

pub universal_lows-requires : goal.universal_lows-requires
universal_lows-requires c =
    let P = c.args.here.game.now in
    let depth = c.args.here.depth in
    rw (c.args.here.from_depth, c.ranges_from.ensures, c.as_slice.ensures)
    (omega (arith, IsBox-length P.vars c.args.bx.now c.requires.bx, length-drop depth (whole_vars P), length-take P.wholes P.vars, length-drop depth c.args.bx.now))
