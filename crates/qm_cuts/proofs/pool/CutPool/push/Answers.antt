use Rattle.std.proofs.Common.{ap, ◌∙◌, ◌++◌, ◌∷◌, []}
use Rattle.qm_cuts.proofs.PoolPairs.{derived_of-append}
use Rattle.qm_cuts.proofs.pool.CutPool.push.Goals as goal

pub returns-in-Ok-clause-ok : goal.returns-in-Ok-clause-ok
returns-in-Ok-clause-ok c =
    let pairs = derived_of-append c.self.inside.combos c.self.inside.rows c.args.combo c.args.row c.self.invariant in
    let combos = c.in_ok-push.ensures.ok in
    let rows = c.in-Ok.ensures.ok in
    rw (combos, rows) (pairs ∙ ap (λ cuts. cuts ++ record { entries = c.args.combo; row = c.args.row } ∷ []) c.self.view_is)
