use Rattle.qm_frac.proofs.Divisors.{gcd_pos}
use Rattle.qm_frac.proofs.gcds.common_divisor.Goals as goal

pub returns-then-b-le-NARROW-clause-some : goal.returns-then-b-le-NARROW-clause-some
returns-then-b-le-NARROW-clause-some c some = rw (c.from.ensures, c.narrow_divisor.ensures) (gcd_pos _ _ some)

pub returns-else-a-le-NARROW-clause-some : goal.returns-else-a-le-NARROW-clause-some
returns-else-a-le-NARROW-clause-some c some = rw c.wide_divisor.ensures (gcd_pos _ _ some)
