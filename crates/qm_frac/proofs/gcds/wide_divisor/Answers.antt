use Rattle.std.proofs.Common.{◌∙◌, arith}
use Rattle.qm_frac.proofs.Halving.{gcd_of-swap, shifted_back}
use Rattle.qm_frac.proofs.gcds.wide_divisor.Goals as goal

pub returns : goal.returns
returns c =
    let a = c.odd_wide_part.ensures in
    let b = c.odd_wide_part-2.ensures in
    rw c.odd_wide_divisor.ensures
    (shifted_back 128 c.args.a c.args.b _ _ _ _ _ (omega arith) (omega arith) a.odd b.odd a.part b.part c.min-twos.ensures)

pub returns-then-a-le-NARROW : goal.returns-then-a-le-NARROW
returns-then-a-le-NARROW c = c.half_narrow_divisor-then-a-le-NARROW.ensures ∙ gcd_of-swap _ _
