use Rattle.std.proofs.Common.{◌∙◌, ap, sym}
use Rattle.qm_cuts.specs.Pools.{combos_of}
use Rattle.qm_cuts.proofs.PoolPairs.{combos_of-derived}
use Rattle.qm_cuts.proofs.pool.CutPool.combos.Goals as goal

pub returns : goal.returns
returns c = c.as_slice.ensures ∙ sym (combos_of-derived c.self.inside.combos c.self.inside.rows c.self.invariant) ∙ ap combos_of c.self.view_is
