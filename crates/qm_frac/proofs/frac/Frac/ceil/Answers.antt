use Rattle.std.proofs.Common.{◌<◌, ◌^◌, ◌∙◌, ap, pos, neg_ℤ, unsigned_abs, to_z, of_z, ◌≡◌, ◌-ℤ◌}
use Rattle.std.specs.Int.{w128}
use Rattle.qm_math.specs.Rounding.{ceil_of}
use Rattle.qm_frac.proofs.SignLaws.{unwrap, zero_minus, unsigned_abs-neg}
use Rattle.qm_math.proofs.Rounding.{ceil_of-IsCeil}
use Rattle.qm_frac.proofs.frac.Frac.ceil.Goals as goal

pub returns-clause-ceil : goal.returns-clause-ceil
returns-clause-ceil c =
    let r = c.floor_of_parts.result in
    let a = c.args.self in
    let n = unwrap c.num.result (rw c.num.ensures.num c.num.ensures.terms.num_fits) ∙ c.num.ensures.num in
    let negated_fits : unsigned_abs (neg_ℤ a.num) < 2 ^ 127 = rw unsigned_abs-neg c.num.ensures.terms.num_fits in
    let d = unwrap c.den.result (rw c.den.ensures.den c.num.ensures.terms.den_fits) ∙ c.den.ensures.den in
    let q = rw (n, d, zero_minus a.num, unwrap (neg_ℤ a.num) negated_fits) at c.floor_of_parts.ensures.value in
    let back : unsigned_abs (neg_ℤ r) < 2 ^ 127 = rw unsigned_abs-neg c.floor_of_parts.ensures.bound in
    let same : to_z w128 (of_z w128 (pos 0 -ℤ to_z w128 (of_z w128 r))) ≡ ceil_of a =
    rw (unwrap r c.floor_of_parts.ensures.bound, zero_minus r, unwrap (neg_ℤ r) back) (ap neg_ℤ q) in
    rw same (ceil_of-IsCeil a c.num.ensures.terms.positive)
