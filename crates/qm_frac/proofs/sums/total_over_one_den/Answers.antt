use Rattle.std.proofs.Common.{◌<◌, ◌^◌, ◌∙◌, sym, unsigned_abs}
use Rattle.qm_frac.proofs.SignLaws.{unwrap}
use Rattle.qm_frac.proofs.SumLaws.{same_den_fits, same_den_total_is, whole_total_is}
use Rattle.qm_frac.proofs.sums.total_over_one_den.Goals as goal

pub returns-in_err-num : goal.returns-in_err-num
returns-in_err-num c =
    let a = c.parts-left.ensures in
    let b = c.parts-right.ensures in
    let a_is = unwrap c.parts-left.result.0 (rw a.num a.terms.num_fits) ∙ a.num in
    let b_is = unwrap c.parts-right.result.0 (rw b.num b.terms.num_fits) ∙ b.num in
    let not = rw (a_is, b_is) at c.in_err-num.ensures in
    rw c.from_residual.ensures (λ fits. not (same_den_fits c.args.a c.args.b c.requires a.terms.positive fits))

pub over_one-requires : goal.over_one-requires
over_one-requires c =
    let a = c.parts-left.ensures in
    let b = c.parts-right.ensures in
    let a_is = unwrap c.parts-left.result.0 (rw a.num a.terms.num_fits) ∙ a.num in
    let b_is = unwrap c.parts-right.result.0 (rw b.num b.terms.num_fits) ∙ b.num in
    let num = rw (a_is, b_is) at c.in_ok-num.ensures in
    let num_fits : unsigned_abs c.in_ok-num.num < 2 ^ 127 = rw num.1 num.0 in
    rw (unwrap c.in_ok-num.num num_fits) num_fits

pub returns-then-den-eq1 : goal.returns-then-den-eq1
returns-then-den-eq1 c =
    let a = c.parts-left.ensures in
    let b = c.parts-right.ensures in
    let a_is = unwrap c.parts-left.result.0 (rw a.num a.terms.num_fits) ∙ a.num in
    let b_is = unwrap c.parts-right.result.0 (rw b.num b.terms.num_fits) ∙ b.num in
    let num = rw (a_is, b_is) at c.in_ok-num.ensures in
    let num_fits : unsigned_abs c.in_ok-num.num < 2 ^ 127 = rw num.1 num.0 in
    let one = sym a.den ∙ c.if-den-eq1.true in
    let made = rw (unwrap c.in_ok-num.num num_fits) at c.over_one.ensures in
    whole_total_is c.args.a c.args.b c.over_one.result c.in_ok-num.num a.terms b.terms c.requires one num.1 num_fits made

pub returns-else-den-eq1 : goal.returns-else-den-eq1
returns-else-den-eq1 c =
    let a = c.parts-left.ensures in
    let b = c.parts-right.ensures in
    let a_is = unwrap c.parts-left.result.0 (rw a.num a.terms.num_fits) ∙ a.num in
    let b_is = unwrap c.parts-right.result.0 (rw b.num b.terms.num_fits) ∙ b.num in
    let num = rw (a_is, b_is) at c.in_ok-num.ensures in
    let num_fits : unsigned_abs c.in_ok-num.num < 2 ^ 127 = rw num.1 num.0 in
    let last = rw (c.unsigned_abs.ensures.value, unwrap c.in_ok-num.num num_fits, a.den) at c.lowest_of.ensures in
    same_den_total_is c.args.a c.args.b c.in_ok-num.num a.terms b.terms c.requires num.1 num_fits c.lowest_of.result last
