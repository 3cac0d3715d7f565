use Rattle.std.proofs.Common.{◌∙◌, ap, sym}
use Rattle.qm_cuts.specs.Pools.{rows_of}
use Rattle.qm_cuts.proofs.PoolPairs.{rows_of-derived}
use Rattle.qm_cuts.proofs.pool.CutPool.rows.Goals as goal

pub returns : goal.returns
returns c = c.as_slice.ensures ∙ sym (rows_of-derived c.self.inside.combos c.self.inside.rows c.self.invariant) ∙ ap rows_of c.self.view_is
