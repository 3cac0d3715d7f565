-- Orders of fractions divided by a number of known sign.
use Rattle.std.proofs.Common.{⊎_elim, ◌<◌, ◌≢◌, ◌↔◌, arith, pos}
use Rattle.std.proofs.lemmas.Int.{ints}
use Rattle.qm_math.specs.Fraction.{Fraction, whole, IsSame, IsAtMost, IsBelow}
use Rattle.qm_math.specs.Arithmetic.{negated, product_of, quotient_of}
use Rattle.qm_math.proofs.Compare.{at_most_trans, at_most_both}
use Rattle.qm_math.proofs.FractionLaws.{negated_den, negated-product_of, same_sym, product_of_den, quotient_of_den, product_of-quotient_of}
use Rattle.qm_math.proofs.FractionOrder.{at_most_congr, negated-at_most, at_most-same, product_of-at_most, product_of-at_most_turned, product_of-below, not_at_most_below}
use Rattle.qm_math.proofs.Compare.{at_most_or_below, below_at_most_weak}

pub above_num : (k : Fraction) → IsBelow (whole (pos 0)) k → k.num ≢ pos 0
above_num k h = λ e. omega (arith, ints, h, e)

pub below_num : (k : Fraction) → IsBelow k (whole (pos 0)) → k.num ≢ pos 0
below_num k h = λ e. omega (arith, ints, h, e)

-- a positive factor cancelled
pub cancel_product_of-at_most : (k a b : Fraction) → 0 < k.den → IsBelow (whole (pos 0)) k → IsAtMost (product_of k a) (product_of k b) → IsAtMost a b
cancel_product_of-at_most k a b hk more h =
    ⊎_elim (λ le. le) (λ less. absurd (not_at_most_below (product_of k a) (product_of k b) h (product_of-below k b a hk more less)))
    (at_most_or_below a b)

pub cancel_product_of-below : (k a b : Fraction) → IsBelow (whole (pos 0)) k → IsBelow (product_of k a) (product_of k b) → IsBelow a b
cancel_product_of-below k a b more h =
    ⊎_elim (λ le. absurd (not_at_most_below (product_of k b) (product_of k a) (product_of-at_most k b a (below_at_most_weak (whole (pos 0)) k more) le) h))
    (λ less. less) (at_most_or_below b a)

pub cancel_product_of-same : (k a b : Fraction) → 0 < k.den → IsBelow (whole (pos 0)) k → IsSame (product_of k a) (product_of k b) → IsSame a b
cancel_product_of-same k a b hk more e =
    at_most_both a b (cancel_product_of-at_most k a b hk more (at_most-same (product_of k a) (product_of k b) e))
    (cancel_product_of-at_most k b a hk more (at_most-same (product_of k b) (product_of k a) (same_sym (product_of k a) (product_of k b) e)))

-- k b' is b where b' is b / k, and the like
dividing : (k b : Fraction) → 0 < k.den → 0 < b.den → k.num ≢ pos 0 → IsSame (product_of k (quotient_of b k)) b
dividing k b hk hb nonzero = product_of-quotient_of b k hb hk nonzero

-- k x ≤ b, for a positive k
pub at_most-quotient_of : (k x b : Fraction) → 0 < k.den → 0 < x.den → 0 < b.den → IsBelow (whole (pos 0)) k
    → IsAtMost (product_of k x) b ↔ IsAtMost x (quotient_of b k)
at_most-quotient_of k x b hk hx hb more =
    let q = quotient_of b k in
    let q_den = quotient_of_den b k hb (above_num k more) in
    let back : IsSame (product_of k q) b = dividing k b hk hb (above_num k more) in (
      λ h. cancel_product_of-at_most k x q hk more
          (at_most_trans (product_of k x) b (product_of k q) hb h (at_most-same b (product_of k q) (same_sym (product_of k q) b back))),
      λ h. at_most_trans (product_of k x) (product_of k q) b (product_of_den k q hk q_den)
          (product_of-at_most k x q (below_at_most_weak (whole (pos 0)) k more) h) (at_most-same (product_of k q) b back),
    )

-- b ≤ k x, for a positive k
pub quotient_of-at_most : (k x b : Fraction) → 0 < k.den → 0 < x.den → 0 < b.den → IsBelow (whole (pos 0)) k
    → IsAtMost b (product_of k x) ↔ IsAtMost (quotient_of b k) x
quotient_of-at_most k x b hk hx hb more =
    let q = quotient_of b k in
    let q_den = quotient_of_den b k hb (above_num k more) in
    let back : IsSame (product_of k q) b = dividing k b hk hb (above_num k more) in (
      λ h. cancel_product_of-at_most k q x hk more
          (at_most_trans (product_of k q) b (product_of k x) hb (at_most-same (product_of k q) b back) h),
      λ h. at_most_trans b (product_of k q) (product_of k x) (product_of_den k q hk q_den)
          (at_most-same b (product_of k q) (same_sym (product_of k q) b back))
          (product_of-at_most k q x (below_at_most_weak (whole (pos 0)) k more) h),
    )

-- ---- negative factors turn the order round
pub negated_above : (k : Fraction) → IsBelow k (whole (pos 0)) → IsBelow (whole (pos 0)) (negated k)
unfolding negated
negated_above k h = omega (arith, ints, h)

pub cancel_product_of-at_most_turned : (k a b : Fraction) → 0 < k.den → 0 < a.den → 0 < b.den → IsBelow k (whole (pos 0))
    → IsAtMost (product_of k a) (product_of k b) → IsAtMost b a
cancel_product_of-at_most_turned k a b hk ha hb less h =
    cancel_product_of-at_most (negated k) b a (negated_den k hk) (negated_above k less)
    (at_most_congr (negated (product_of k b)) (negated (product_of k a)) (product_of (negated k) b) (product_of (negated k) a)
    (negated_den (product_of k b) (product_of_den k b hk hb)) (negated_den (product_of k a) (product_of_den k a hk ha))
    (same_sym (product_of (negated k) b) (negated (product_of k b)) (negated-product_of k b))
    (same_sym (product_of (negated k) a) (negated (product_of k a)) (negated-product_of k a))
    (negated-at_most (product_of k a) (product_of k b) h))

-- k x ≤ b, for a negative k
pub at_most-quotient_of_turned : (k x b : Fraction) → 0 < k.den → 0 < x.den → 0 < b.den → IsBelow k (whole (pos 0))
    → IsAtMost (product_of k x) b ↔ IsAtMost (quotient_of b k) x
at_most-quotient_of_turned k x b hk hx hb less =
    let q = quotient_of b k in
    let q_den = quotient_of_den b k hb (below_num k less) in
    let back : IsSame (product_of k q) b = dividing k b hk hb (below_num k less) in (
      λ h. cancel_product_of-at_most_turned k x q hk hx q_den less
          (at_most_trans (product_of k x) b (product_of k q) hb h (at_most-same b (product_of k q) (same_sym (product_of k q) b back))),
      λ h. at_most_trans (product_of k x) (product_of k q) b (product_of_den k q hk q_den)
          (product_of-at_most_turned k q x (below_at_most_weak k (whole (pos 0)) less) h) (at_most-same (product_of k q) b back),
    )

-- b ≤ k x, for a negative k
pub quotient_of-at_most_turned : (k x b : Fraction) → 0 < k.den → 0 < x.den → 0 < b.den → IsBelow k (whole (pos 0))
    → IsAtMost b (product_of k x) ↔ IsAtMost x (quotient_of b k)
quotient_of-at_most_turned k x b hk hx hb less =
    let q = quotient_of b k in
    let q_den = quotient_of_den b k hb (below_num k less) in
    let back : IsSame (product_of k q) b = dividing k b hk hb (below_num k less) in (
      λ h. cancel_product_of-at_most_turned k q x hk q_den hx less
          (at_most_trans (product_of k q) b (product_of k x) hb (at_most-same (product_of k q) b back) h),
      λ h. at_most_trans b (product_of k q) (product_of k x) (product_of_den k q hk q_den)
          (at_most-same b (product_of k q) (same_sym (product_of k q) b back))
          (product_of-at_most_turned k x q (below_at_most_weak k (whole (pos 0)) less) h),
    )
