use Rattle.qm_combo.proofs.Narrow.{narrow_rows}
use Rattle.qm_combo.proofs.closing.value.Goals as goal

pub bound_value-requires : goal.bound_value-requires
bound_value-requires c =
    let sound = rw c.problem-problem.ensures.value at c.problem-problem.ensures.sound in
    rw (c.problem-problem.ensures.value, c.entries.ensures.value, c.as_slice.ensures)
    (narrow_rows c.args.game.now c.args.cuts.now c.args.combo.now.entries c.args.bx.now sound c.requires.cuts c.requires.named c.requires.bx)

pub rows_value-requires : goal.rows_value-requires
rows_value-requires c =
    let sound = rw c.problem-problem.ensures.value at c.problem-problem.ensures.sound in
    rw (c.problem-problem.ensures.value, c.entries-else-objective.ensures.value, c.as_slice-else-objective.ensures)
    (narrow_rows c.args.game.now c.args.cuts.now c.args.combo.now.entries c.args.bx.now sound c.requires.cuts c.requires.named c.requires.bx)
