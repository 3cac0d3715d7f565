use Rattle.std.proofs.Common.{◌∙◌, ap, sym}
use Rattle.qm_frac.specs.Gcd.{gcd_of}
use Rattle.qm_frac.proofs.Halving.{odd_step, min_odd, gcd_of-self, gcd_of-swap}
use Rattle.qm_frac.proofs.gcds.odd_wide_divisor.Goals as goal

pub loop-x-preserved : goal.loop-x-preserved
loop-x-preserved c =
    let i = c.loop-x.invariant in
    record {
      left = rw c.min-x.ensures (min_odd _ _ i.left i.right);
      right = c.odd_wide_part-apart.ensures.odd;
      same = rw c.min-x.ensures (odd_step _ _ _ _ i.left i.right (c.odd_wide_part-apart.ensures.part ∙ c.abs_diff.ensures) ∙ i.same);
    }

pub returns-then-x-y : goal.returns-then-x-y
returns-then-x-y c = sym (gcd_of-self _) ∙ ap (λ y. gcd_of c.loop-x.x y) c.if-x-y.true ∙ c.loop-x.invariant.same

pub returns-else-y-le-NARROW : goal.returns-else-y-le-NARROW
returns-else-y-le-NARROW c = c.half_narrow_divisor-else-y-le-NARROW.ensures ∙ gcd_of-swap _ _ ∙ c.loop-x.invariant.same
