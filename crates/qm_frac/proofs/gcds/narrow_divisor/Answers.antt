use Rattle.std.proofs.Common.{◌∙◌, sym, arith}
use Rattle.qm_frac.proofs.Divisors.{gcd_of-zero}
use Rattle.qm_frac.proofs.Halving.{gcd_of-swap, shifted_back}
use Rattle.qm_frac.proofs.gcds.narrow_divisor.Goals as goal

pub returns-then-a-eq0 : goal.returns-then-a-eq0
returns-then-a-eq0 c = sym (gcd_of-swap _ _ ∙ gcd_of-zero _ _ (omega arith))

pub returns-then-b-eq0 : goal.returns-then-b-eq0
returns-then-b-eq0 c = sym (gcd_of-zero _ _ (omega arith))

pub returns : goal.returns
returns c =
    let a = c.odd_part.ensures in
    let b = c.odd_part-2.ensures in
    rw c.odd_divisor.ensures
    (shifted_back 64 c.args.a c.args.b _ _ _ _ _ (omega arith) (omega arith) a.odd b.odd a.part b.part c.min-twos.ensures)
