use Rattle.std.proofs.Common.{length}
use Rattle.qm_model.proofs.BoxLaws.{IsBox-length}
use Rattle.qm_model.proofs.Sizes.{reach_in_box_le, rows_size_le, rows_vars_below}
use Rattle.qm_model.specs.Sizes.{reach_in_box}
use Rattle.qm_game.proofs.dead.row_dead.Goals as goal

pub first_dead-requires-clause-vars : goal.first_dead-requires-clause-vars
first_dead-requires-clause-vars c =
    let P = c.args.game.now in
    let sound = rw c.problem-problem.ensures.value at c.problem-problem.ensures.sound in
    rw (c.as_slice.ensures, c.problem-problem.ensures.value)
    (rows_vars_below P.vars P.rows (length c.args.bx.now) sound.rows (IsBox-length P.vars c.args.bx.now c.requires))

pub first_dead-requires-clause-size : goal.first_dead-requires-clause-size
first_dead-requires-clause-size c =
    let P = c.args.game.now in
    let sound = rw c.problem-problem.ensures.value at c.problem-problem.ensures.sound in
    rw (c.as_slice.ensures, c.problem-problem.ensures.value)
    (rows_size_le P.vars P.rows (reach_in_box c.args.bx.now) sound.rows (reach_in_box_le P.vars c.args.bx.now c.requires))

pub first_dead-requires-2-clause-vars : goal.first_dead-requires-2-clause-vars
first_dead-requires-2-clause-vars c =
    let P = c.args.game.now in
    let sound = rw c.problem-problem.ensures.value at c.problem-problem.ensures.sound in
    rw (c.as_slice-2.ensures, c.problem-problem.ensures.value)
    (rows_vars_below P.vars P.urows (length c.args.bx.now) sound.urows (IsBox-length P.vars c.args.bx.now c.requires))

pub first_dead-requires-2-clause-size : goal.first_dead-requires-2-clause-size
first_dead-requires-2-clause-size c =
    let P = c.args.game.now in
    let sound = rw c.problem-problem.ensures.value at c.problem-problem.ensures.sound in
    rw (c.as_slice-2.ensures, c.problem-problem.ensures.value)
    (rows_size_le P.vars P.urows (reach_in_box c.args.bx.now) sound.urows (reach_in_box_le P.vars c.args.bx.now c.requires))
