use Rattle.std.proofs.Common.{◌<◌, ◌^◌, ◌∙◌, unsigned_abs}
use native.Mathlib.Nat.{mul-pos}
use Rattle.qm_frac.proofs.SignLaws.{unwrap}
use Rattle.qm_frac.proofs.SumLaws.{total_is}
use Rattle.qm_frac.proofs.Terms.{quotient_pos}
use Rattle.qm_frac.proofs.sums.total_over_common_den.Goals as goal

pub lowest_of-requires : goal.lowest_of-requires
lowest_of-requires c =
    let a = c.parts-left_num.ensures in
    let b = c.parts-right_num.ensures in
    let left : 0 < c.parts-left_num.result.1 = rw a.den a.terms.positive in
    let right : 0 < c.parts-right_num.result.1 = rw b.den b.terms.positive in
    let part : 0 < c.reduced-left_part.result.1 = rw c.reduced-left_part.ensures.den (quotient_pos _ _ right) in
    rw c.in_ok-common.ensures.1 (mul-pos left part)

pub returns : goal.returns
returns c =
    let a = c.parts-left_num.ensures in
    let b = c.parts-right_num.ensures in
    let a_is = unwrap c.parts-left_num.result.0 (rw a.num a.terms.num_fits) ∙ a.num in
    let b_is = unwrap c.parts-right_num.result.0 (rw b.num b.terms.num_fits) ∙ b.num in
    let left_part = rw (a.den, b.den) at c.reduced-left_part.ensures.num in
    let right_part = rw (a.den, b.den) at c.reduced-left_part.ensures.den in
    let common = rw a.den at c.in_ok-common.ensures in
    let left = rw a_is at c.in_ok-left.ensures in
    let right = rw b_is at c.in_ok-right.ensures in
    let left_fits : unsigned_abs c.in_ok-left.left < 2 ^ 127 = rw left.1 left.0 in
    let right_fits : unsigned_abs c.in_ok-right.right < 2 ^ 127 = rw right.1 right.0 in
    let num = rw (unwrap c.in_ok-left.left left_fits, unwrap c.in_ok-right.right right_fits) at c.in_ok-num.ensures in
    let num_fits : unsigned_abs c.in_ok-num.num < 2 ^ 127 = rw num.1 num.0 in
    let same = unwrap c.in_ok-num.num num_fits in
    let last = rw (c.unsigned_abs.ensures.value, same) at c.lowest_of.ensures in
    total_is c.args.a c.args.b c.in_ok-left.left c.in_ok-right.right c.in_ok-num.num _ _ _ left_part right_part common.1 left.1 right.1 num.1
    (rw common.1 common.0) left_fits right_fits num_fits c.lowest_of.result last
