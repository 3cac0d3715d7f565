use Rattle.std.proofs.Common.{◌∙◌, arith, sym}
use Rattle.qm_policy.proofs.Steps.{bounds_more}
use Rattle.qm_policy.proofs.leaf.in_bounds.Goals as goal

pub loop-at-preserved : goal.loop-at-preserved
loop-at-preserved c =
    let below = c.loop-at-test.true in
    let long = c.requires in
    sym (bounds_more c.args.vars.now c.args.point.now c.loop-at.at c.index-vars-at.result c.index-point-at.result below (omega arith) c.index-vars-at.is c.index-point-at.is c.if-not-is_within.ensures) ∙ c.loop-at.invariant
