use Rattle.std.proofs.Common.{arith}
use Rattle.std.proofs.lemmas.Int.{ints}
use Rattle.qm_frac.proofs.SignLaws.{unwrap}
use Rattle.qm_frac.proofs.Terms.{whole_is}
use Rattle.qm_frac.proofs.frac.over_one.Goals as goal

pub invariant_of-result : goal.invariant_of-result
invariant_of-result c = (omega (arith, ints), rw (unwrap c.args.num c.requires) (whole_is c.args.num c.requires))
