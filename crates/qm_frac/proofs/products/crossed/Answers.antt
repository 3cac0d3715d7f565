use Rattle.std.proofs.Common.{◌<◌, ◌^◌, ◌∙◌, ap, refl, unsigned_abs}
use Rattle.qm_frac.proofs.SignLaws.{unwrap}
use Rattle.qm_frac.proofs.ProductLaws.{product_is_lem, product_is_fraction, parts_fit, fits_from_parts}
use Rattle.qm_frac.proofs.products.crossed.Goals as goal

pub returns-in_err-num : goal.returns-in_err-num
returns-in_err-num c =
    let a = c.parts-left_num.ensures in
    let b = c.parts-right_num.ensures in
    let a_is = unwrap c.parts-left_num.result.0 (rw a.num a.terms.num_fits) ∙ a.num in
    let b_is = unwrap c.parts-right_num.result.0 (rw b.num b.terms.num_fits) ∙ b.num in
    let a_abs = c.unsigned_abs.ensures.value ∙ ap unsigned_abs a_is in
    let b_abs = c.unsigned_abs-2.ensures.value ∙ ap unsigned_abs b_is in
    let is = product_is_lem c.args.a c.args.b a.terms b.terms _ _ _ _ _ _
    (rw (a_abs, b.den) at c.reduced-n.ensures.num) (rw (a_abs, b.den) at c.reduced-n.ensures.den)
    (rw (b_abs, a.den) at c.reduced-m.ensures.num) (rw (b_abs, a.den) at c.reduced-m.ensures.den) refl refl in
    rw c.from_residual.ensures (λ fits. c.in_err-num.ensures (parts_fit _ _ _ _ is fits).0)

pub returns-in_err-den : goal.returns-in_err-den
returns-in_err-den c =
    let a = c.parts-left_num.ensures in
    let b = c.parts-right_num.ensures in
    let a_is = unwrap c.parts-left_num.result.0 (rw a.num a.terms.num_fits) ∙ a.num in
    let b_is = unwrap c.parts-right_num.result.0 (rw b.num b.terms.num_fits) ∙ b.num in
    let a_abs = c.unsigned_abs.ensures.value ∙ ap unsigned_abs a_is in
    let b_abs = c.unsigned_abs-2.ensures.value ∙ ap unsigned_abs b_is in
    let is = product_is_lem c.args.a c.args.b a.terms b.terms _ _ _ _ _ _
    (rw (a_abs, b.den) at c.reduced-n.ensures.num) (rw (a_abs, b.den) at c.reduced-n.ensures.den)
    (rw (b_abs, a.den) at c.reduced-m.ensures.num) (rw (b_abs, a.den) at c.reduced-m.ensures.den) refl refl in
    rw c.from_residual-in_err-den.ensures (λ fits. c.in_err-den.ensures (parts_fit _ _ _ _ is fits).1)

pub made-requires : goal.made-requires
made-requires c =
    let a = c.parts-left_num.ensures in
    let b = c.parts-right_num.ensures in
    let a_is = unwrap c.parts-left_num.result.0 (rw a.num a.terms.num_fits) ∙ a.num in
    let b_is = unwrap c.parts-right_num.result.0 (rw b.num b.terms.num_fits) ∙ b.num in
    let a_abs = c.unsigned_abs.ensures.value ∙ ap unsigned_abs a_is in
    let b_abs = c.unsigned_abs-2.ensures.value ∙ ap unsigned_abs b_is in
    let num = c.in_ok-num.ensures in
    let den = c.in_ok-den.ensures in
    let num_fits : c.in_ok-num.num < 2 ^ 127 = rw num.1 num.0 in
    let den_fits : c.in_ok-den.den < 2 ^ 127 = rw den.1 den.0 in
    product_is_fraction c.args.a c.args.b a.terms b.terms _ _ _ _ _ _
    (rw (a_abs, b.den) at c.reduced-n.ensures.num) (rw (a_abs, b.den) at c.reduced-n.ensures.den)
    (rw (b_abs, a.den) at c.reduced-m.ensures.num) (rw (b_abs, a.den) at c.reduced-m.ensures.den) num.1 den.1 num_fits den_fits _

pub returns : goal.returns
returns c =
    let a = c.parts-left_num.ensures in
    let b = c.parts-right_num.ensures in
    let a_is = unwrap c.parts-left_num.result.0 (rw a.num a.terms.num_fits) ∙ a.num in
    let b_is = unwrap c.parts-right_num.result.0 (rw b.num b.terms.num_fits) ∙ b.num in
    let a_abs = c.unsigned_abs.ensures.value ∙ ap unsigned_abs a_is in
    let b_abs = c.unsigned_abs-2.ensures.value ∙ ap unsigned_abs b_is in
    let num = c.in_ok-num.ensures in
    let den = c.in_ok-den.ensures in
    let num_fits : c.in_ok-num.num < 2 ^ 127 = rw num.1 num.0 in
    let den_fits : c.in_ok-den.den < 2 ^ 127 = rw den.1 den.0 in
    let is = product_is_lem c.args.a c.args.b a.terms b.terms _ _ _ _ _ _
    (rw (a_abs, b.den) at c.reduced-n.ensures.num) (rw (a_abs, b.den) at c.reduced-n.ensures.den)
    (rw (b_abs, a.den) at c.reduced-m.ensures.num) (rw (b_abs, a.den) at c.reduced-m.ensures.den) num.1 den.1 in
    (fits_from_parts _ _ _ _ is num_fits den_fits, rw (a_is, b_is) at c.made.ensures ∙ is)
