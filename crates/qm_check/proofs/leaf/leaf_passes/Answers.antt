use Rattle.std.proofs.Common.{get_or}
use Rattle.qm_check.proofs.Narrow.{row_is_narrow}
use Rattle.qm_check.proofs.leaf.leaf_passes.Goals as goal

pub rows_hold-requires : goal.rows_hold-requires
rows_hold-requires c =
    let sound = rw c.problem-problem.ensures.value at c.problem-problem.ensures.sound in
    rw (c.as_slice.ensures, c.problem-problem.ensures.value, c.requires.bx)
    (λ k d h. row_is_narrow c.args.game.now.vars (get_or c.args.game.now.rows k d) (sound.rows k d h))
