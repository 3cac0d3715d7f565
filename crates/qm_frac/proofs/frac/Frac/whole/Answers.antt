use Rattle.std.proofs.Common.{◌∙◌, ◌^◌, ◌<◌, w64, unsigned_abs, arith}
use Rattle.std.proofs.lemmas.Int.{to_z-of_z, ints}
use Rattle.qm_frac.proofs.SignLaws.{small_abs, unwrap}
use Rattle.qm_frac.proofs.Terms.{whole_is}
use Rattle.qm_frac.proofs.frac.Frac.whole.Goals as goal

pub invariant_of-result : goal.invariant_of-result
invariant_of-result c =
    let same = c.from.ensures ∙ to_z-of_z w64 c.args.n c.ranges.n in
    let fits : unsigned_abs c.from.result < 2 ^ 127 = rw same (small_abs c.args.n c.ranges.n) in
    (omega (arith, ints), rw (unwrap c.from.result fits) (whole_is c.from.result fits))
