use Rattle.std.proofs.Common.{◌∙◌, ap, length, sym}
use Rattle.qm_cuts.proofs.PoolPairs.{length-derived}
use Rattle.qm_cuts.proofs.pool.CutPool.len.Goals as goal

pub returns : goal.returns
returns c = c.len.ensures ∙ sym (length-derived c.self.inside.combos c.self.inside.rows c.self.invariant) ∙ ap length c.self.view_is
