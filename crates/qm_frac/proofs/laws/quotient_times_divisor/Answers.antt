use Rattle.qm_frac.proofs.CheckedLaws.{divided-times}
use Rattle.qm_frac.proofs.laws.quotient_times_divisor.Goals as goal

pub returns : goal.returns
returns c = divided-times
