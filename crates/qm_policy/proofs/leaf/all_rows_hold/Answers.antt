use Rattle.std.proofs.Common.{get_or, arith}
use Rattle.qm_policy.proofs.Steps.{coefs_fit}
use Rattle.qm_policy.proofs.leaf.all_rows_hold.Goals as goal

pub rows_hold-requires-clause-size : goal.rows_hold-requires-clause-size
rows_hold-requires-clause-size c =
    rw c.as_slice.ensures
    (λ k d h. coefs_fit c.args.problem.now.vars (get_or c.args.problem.now.rows k d).terms (omega (arith, (c.requires.sound.rows k d h).size)))
