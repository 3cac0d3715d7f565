use Rattle.std.proofs.Common.{length}
use Rattle.qm_model.proofs.BoxLaws.{IsBox-length}
use Rattle.qm_model.proofs.Sizes.{reach_in_box_le, rows_size_le, rows_vars_below}
use Rattle.qm_model.specs.Sizes.{reach_in_box}
use Rattle.qm_check.proofs.worst.uncertainty_holds.Goals as goal

pub hold_on_box-requires-clause-vars : goal.hold_on_box-requires-clause-vars
hold_on_box-requires-clause-vars c =
    let P = c.args.game.now in
    let sound = rw c.problem.ensures.value at c.problem.ensures.sound in
    rw (c.as_slice.ensures, c.problem.ensures.value)
    (rows_vars_below P.vars P.urows (length c.args.bx.now) sound.urows (IsBox-length P.vars c.args.bx.now c.requires))

pub hold_on_box-requires-clause-size : goal.hold_on_box-requires-clause-size
hold_on_box-requires-clause-size c =
    let P = c.args.game.now in
    let sound = rw c.problem.ensures.value at c.problem.ensures.sound in
    rw (c.as_slice.ensures, c.problem.ensures.value)
    (rows_size_le P.vars P.urows (reach_in_box c.args.bx.now) sound.urows (reach_in_box_le P.vars c.args.bx.now c.requires))
