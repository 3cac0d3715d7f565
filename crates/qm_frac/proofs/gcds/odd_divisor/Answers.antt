use Rattle.std.proofs.Common.{◌∙◌, ap, sym}
use Rattle.qm_frac.specs.Gcd.{gcd_of}
use Rattle.qm_frac.proofs.Halving.{odd_step, min_odd, gcd_of-self}
use Rattle.qm_frac.proofs.gcds.odd_divisor.Goals as goal

pub loop-x-preserved : goal.loop-x-preserved
loop-x-preserved c =
    let i = c.loop-x.invariant in
    record {
      left = rw c.min-x.ensures (min_odd _ _ i.left i.right);
      right = c.odd_part-apart.ensures.odd;
      same = rw c.min-x.ensures (odd_step _ _ _ _ i.left i.right (c.odd_part-apart.ensures.part ∙ c.abs_diff.ensures) ∙ i.same);
    }

pub returns : goal.returns
returns c = sym (gcd_of-self _) ∙ ap (λ y. gcd_of c.loop-x.x y) c.loop-x-test.false ∙ c.loop-x.invariant.same
