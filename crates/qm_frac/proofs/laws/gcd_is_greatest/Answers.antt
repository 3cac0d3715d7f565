use Rattle.qm_frac.proofs.Divisors.{gcd_is}
use Rattle.qm_frac.proofs.laws.gcd_is_greatest.Goals as goal

pub returns : goal.returns
returns c = gcd_is
