use Rattle.std.proofs.Common.{sym, arith}
use Rattle.qm_frac.proofs.Divisors.{gcd_of-mod, gcd_of-zero}
use Rattle.qm_frac.proofs.gcds.half_narrow_divisor.Goals as goal

pub returns-then-b-eq0 : goal.returns-then-b-eq0
returns-then-b-eq0 c = sym (gcd_of-zero _ _ (omega arith))

pub returns-else-b-eq0 : goal.returns-else-b-eq0
returns-else-b-eq0 c = let e = gcd_of-mod c.args.a c.args.b in cc
