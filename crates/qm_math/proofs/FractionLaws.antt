-- Fractions form a field: the laws of sums, products, negatives and inverses, up to the same number.
use Rattle.std.proofs.Common.{◌≡◌, ◌∙◌, sym, refl, ap, ◌<◌, ◌≢◌, arith, mul-pos, [], ◌∷◌, ℤ, pos, negsuc, ◌+ℤ◌, ◌*ℤ◌, neg_ℤ, unsigned_abs, ◌≤ℤ◌}
use Rattle.std.proofs.lemmas.Int.{ints}
use Rattle.qm_math.specs.Fraction.{Fraction, whole, IsSame}
use Rattle.qm_math.specs.Arithmetic.{sum_of, negated, difference_of, product_of, sign_of, inverse_of, quotient_of}
use Rattle.qm_math.proofs.Whole.{*ℤ_swap}
use Rattle.qm_math.proofs.Products.{cancel_same}
use Rattle.qm_math.proofs.Polynomials.{number, ◌⊕◌, ◌⊗◌, minus}
use Rattle.qm_math.proofs.Ring.{x0, x1, x2, x3, x4, x5, x6, x7, ring, ring_from}
use Rattle.qm_math.proofs.FractionRing.{num_of, den_of, same_by_ring, same_from}
use Rattle.qm_math.proofs.Magnitudes.{unsigned_abs-nonzero, nonzero-one_le}

-- ---- denominators stay above 0
pub whole_den : (n : ℤ) → 0 < (whole n).den
whole_den n = omega arith

pub sum_of_den : (a b : Fraction) → 0 < a.den → 0 < b.den → 0 < (sum_of a b).den
unfolding sum_of
sum_of_den a b = mul-pos

pub product_of_den : (a b : Fraction) → 0 < a.den → 0 < b.den → 0 < (product_of a b).den
unfolding product_of
product_of_den a b = mul-pos

pub negated_den : (a : Fraction) → 0 < a.den → 0 < (negated a).den
unfolding negated
negated_den a h = h

pub difference_of_den : (a b : Fraction) → 0 < a.den → 0 < b.den → 0 < (difference_of a b).den
difference_of_den a b h k = sum_of_den a (negated b) h (negated_den b k)

pub inverse_of_den : (a : Fraction) → a.num ≢ pos 0 → 0 < (inverse_of a).den
unfolding inverse_of
inverse_of_den a h = unsigned_abs-nonzero a.num h

pub quotient_of_den : (a b : Fraction) → 0 < a.den → b.num ≢ pos 0 → 0 < (quotient_of a b).den
quotient_of_den a b h k = product_of_den a (inverse_of b) h (inverse_of_den b k)

pub whole_quotient_den : (a : Fraction) (n : ℤ) → pos 1 ≤ℤ n → 0 < a.den → 0 < (quotient_of a (whole n)).den
whole_quotient_den a n h some = quotient_of_den a (whole n) some (nonzero-one_le n h)

-- ---- the same number
pub same_refl : (a : Fraction) → IsSame a a
same_refl a = refl

pub same_sym : (a b : Fraction) → IsSame a b → IsSame b a
same_sym a b e = sym e

pub same_trans : (a b c : Fraction) → 0 < b.den → IsSame a b → IsSame b c → IsSame a c
same_trans a b c more e k =
    cancel_same (a.num *ℤ pos c.den) (c.num *ℤ pos a.den) b.den more
    (*ℤ_swap a.num (pos c.den) (pos b.den)
    ∙ ap (λ n. n *ℤ pos c.den) e
    ∙ *ℤ_swap b.num (pos a.den) (pos c.den)
    ∙ ap (λ n. n *ℤ pos a.den) k
    ∙ *ℤ_swap c.num (pos b.den) (pos a.den))

-- ---- sums
pub sum_of_comm : (a b : Fraction) → IsSame (sum_of a b) (sum_of b a)
sum_of_comm a b = same_by_ring (a ∷ b ∷ []) (x0 ⊕ x1) (x1 ⊕ x0) refl

pub sum_of_assoc : (a b c : Fraction) → IsSame (sum_of (sum_of a b) c) (sum_of a (sum_of b c))
sum_of_assoc a b c = same_by_ring (a ∷ b ∷ c ∷ []) (x0 ⊕ x1 ⊕ x2) (x0 ⊕ (x1 ⊕ x2)) refl

pub sum_of_left_comm : (a b c : Fraction) → IsSame (sum_of a (sum_of b c)) (sum_of b (sum_of a c))
sum_of_left_comm a b c = same_by_ring (a ∷ b ∷ c ∷ []) (x0 ⊕ (x1 ⊕ x2)) (x1 ⊕ (x0 ⊕ x2)) refl

-- the two in the middle change places
pub sum_of_four : (a b c d : Fraction) → IsSame (sum_of (sum_of a b) (sum_of c d)) (sum_of (sum_of a c) (sum_of b d))
sum_of_four a b c d = same_by_ring (a ∷ b ∷ c ∷ d ∷ []) (x0 ⊕ x1 ⊕ (x2 ⊕ x3)) (x0 ⊕ x2 ⊕ (x1 ⊕ x3)) refl

pub sum_of-zero : (a : Fraction) → IsSame (sum_of a (whole (pos 0))) a
sum_of-zero a = same_by_ring (a ∷ []) (x0 ⊕ number (pos 0)) x0 refl

pub zero-sum_of : (a : Fraction) → IsSame (sum_of (whole (pos 0)) a) a
zero-sum_of a = same_by_ring (a ∷ []) (number (pos 0) ⊕ x0) x0 refl

pub sum_of-negated : (a : Fraction) → IsSame (sum_of a (negated a)) (whole (pos 0))
sum_of-negated a = same_by_ring (a ∷ []) (x0 ⊕ minus x0) (number (pos 0)) refl

-- what was taken away is put back
pub sum_of-difference_of : (a b : Fraction) → IsSame (sum_of (difference_of a b) b) a
sum_of-difference_of a b = same_by_ring (a ∷ b ∷ []) (x0 ⊕ minus x1 ⊕ x1) x0 refl

-- the same first part of two sums
pub sum_of_later : (a s b t c : Fraction) → IsSame (sum_of s b) (sum_of t c) → IsSame (sum_of (sum_of a s) b) (sum_of (sum_of a t) c)
sum_of_later a s b t c e =
    same_from (a ∷ s ∷ b ∷ t ∷ c ∷ []) (x0 ⊕ x1 ⊕ x2) (x0 ⊕ x3 ⊕ x4) ((den_of (x0 ⊗ x0), x1 ⊕ x2, x3 ⊕ x4) ∷ []) (e, tt) refl

-- ---- products
pub product_of_comm : (a b : Fraction) → IsSame (product_of a b) (product_of b a)
product_of_comm a b = same_by_ring (a ∷ b ∷ []) (x0 ⊗ x1) (x1 ⊗ x0) refl

pub product_of_assoc : (a b c : Fraction) → IsSame (product_of (product_of a b) c) (product_of a (product_of b c))
product_of_assoc a b c = same_by_ring (a ∷ b ∷ c ∷ []) (x0 ⊗ x1 ⊗ x2) (x0 ⊗ (x1 ⊗ x2)) refl

pub product_of_left_comm : (a b c : Fraction) → IsSame (product_of a (product_of b c)) (product_of b (product_of a c))
product_of_left_comm a b c = same_by_ring (a ∷ b ∷ c ∷ []) (x0 ⊗ (x1 ⊗ x2)) (x1 ⊗ (x0 ⊗ x2)) refl

pub product_of-one : (a : Fraction) → IsSame (product_of a (whole (pos 1))) a
product_of-one a = same_by_ring (a ∷ []) (x0 ⊗ number (pos 1)) x0 refl

pub one-product_of : (a : Fraction) → IsSame (product_of (whole (pos 1)) a) a
one-product_of a = same_by_ring (a ∷ []) (number (pos 1) ⊗ x0) x0 refl

pub product_of-zero : (a : Fraction) → IsSame (product_of a (whole (pos 0))) (whole (pos 0))
product_of-zero a = same_by_ring (a ∷ []) (x0 ⊗ number (pos 0)) (number (pos 0)) refl

pub zero-product_of : (a : Fraction) → IsSame (product_of (whole (pos 0)) a) (whole (pos 0))
zero-product_of a = same_by_ring (a ∷ []) (number (pos 0) ⊗ x0) (number (pos 0)) refl

pub product_of-sum_of : (a b c : Fraction) → IsSame (product_of a (sum_of b c)) (sum_of (product_of a b) (product_of a c))
product_of-sum_of a b c = same_by_ring (a ∷ b ∷ c ∷ []) (x0 ⊗ (x1 ⊕ x2)) (x0 ⊗ x1 ⊕ x0 ⊗ x2) refl

pub sum_of-product_of : (a b c : Fraction) → IsSame (product_of (sum_of a b) c) (sum_of (product_of a c) (product_of b c))
sum_of-product_of a b c = same_by_ring (a ∷ b ∷ c ∷ []) ((x0 ⊕ x1) ⊗ x2) (x0 ⊗ x2 ⊕ x1 ⊗ x2) refl

-- ---- negatives
pub negated-negated : (a : Fraction) → IsSame (negated (negated a)) a
negated-negated a = same_by_ring (a ∷ []) (minus (minus x0)) x0 refl

pub negated-sum_of : (a b : Fraction) → IsSame (negated (sum_of a b)) (sum_of (negated a) (negated b))
negated-sum_of a b = same_by_ring (a ∷ b ∷ []) (minus (x0 ⊕ x1)) (minus x0 ⊕ minus x1) refl

pub negated-product_of : (a b : Fraction) → IsSame (product_of (negated a) b) (negated (product_of a b))
negated-product_of a b = same_by_ring (a ∷ b ∷ []) (minus x0 ⊗ x1) (minus (x0 ⊗ x1)) refl

pub product_of-negated : (a b : Fraction) → IsSame (product_of a (negated b)) (negated (product_of a b))
product_of-negated a b = same_by_ring (a ∷ b ∷ []) (x0 ⊗ minus x1) (minus (x0 ⊗ x1)) refl

-- ---- equals for equals
pub sum_of-same : (a b c d : Fraction) → IsSame a c → IsSame b d → IsSame (sum_of a b) (sum_of c d)
sum_of-same a b c d e k =
    same_from (a ∷ b ∷ c ∷ d ∷ []) (x0 ⊕ x1) (x2 ⊕ x3)
    ((den_of x1 ⊗ den_of x3, x0, x2) ∷ (den_of x0 ⊗ den_of x2, x1, x3) ∷ []) (e, (k, tt)) refl

pub product_of-same : (a b c d : Fraction) → IsSame a c → IsSame b d → IsSame (product_of a b) (product_of c d)
product_of-same a b c d e k =
    same_from (a ∷ b ∷ c ∷ d ∷ []) (x0 ⊗ x1) (x2 ⊗ x3)
    ((num_of x1 ⊗ den_of x3, x0, x2) ∷ (num_of x2 ⊗ den_of x0, x1, x3) ∷ []) (e, (k, tt)) refl

pub negated-same : (a b : Fraction) → IsSame a b → IsSame (negated a) (negated b)
negated-same a b e = same_from (a ∷ b ∷ []) (minus x0) (minus x1) ((number (negsuc 0), x0, x1) ∷ []) (e, tt) refl

pub difference_of-same : (a b c d : Fraction) → IsSame a c → IsSame b d → IsSame (difference_of a b) (difference_of c d)
difference_of-same a b c d e k = sum_of-same a (negated b) c (negated d) e (negated-same b d k)

-- ---- inverses
sign_times : (z : ℤ) → z *ℤ sign_of z ≡ pos (unsigned_abs z)
sign_times (pos n) = omega (arith, ints)
sign_times (negsuc n) = omega (arith, ints)

-- the same number has the same inverse
pub inverse_of-same : (a b : Fraction) → IsSame a b → IsSame (inverse_of a) (inverse_of b)
unfolding inverse_of
inverse_of-same a b e =
    ring_from (a.num ∷ pos a.den ∷ sign_of a.num ∷ pos (unsigned_abs a.num) ∷ b.num ∷ pos b.den ∷ sign_of b.num ∷ pos (unsigned_abs b.num) ∷ [])
    (x2 ⊗ x1 ⊗ x7) (x6 ⊗ x5 ⊗ x3)
    ((x2 ⊗ x1, x7, x4 ⊗ x6) ∷ (x2 ⊗ x6, x4 ⊗ x1, x0 ⊗ x5) ∷ (x6 ⊗ x5, x0 ⊗ x2, x3) ∷ [])
    (sym (sign_times b.num), (sym e, (sign_times a.num, tt))) refl

pub quotient_of-same : (a b c d : Fraction) → IsSame a c → IsSame b d → IsSame (quotient_of a b) (quotient_of c d)
quotient_of-same a b c d e k = product_of-same a (inverse_of b) c (inverse_of d) e (inverse_of-same b d k)

-- a number times its inverse is 1; at 0 both sides have the denominator 0
pub product_of-inverse_of : (a : Fraction) → IsSame (product_of a (inverse_of a)) (whole (pos 1))
unfolding product_of inverse_of
product_of-inverse_of a =
    ring_from (a.num ∷ pos a.den ∷ sign_of a.num ∷ pos (unsigned_abs a.num) ∷ [])
    (x0 ⊗ (x2 ⊗ x1) ⊗ number (pos 1)) (number (pos 1) ⊗ (x1 ⊗ x3)) ((x1, x0 ⊗ x2, x3) ∷ []) (sign_times a.num, tt) refl

-- b times a / b is a, where b is not 0
pub product_of-quotient_of : (a b : Fraction) → 0 < a.den → 0 < b.den → b.num ≢ pos 0 → IsSame (product_of b (quotient_of a b)) a
product_of-quotient_of a b ha hb more =
    same_trans (product_of b (quotient_of a b)) (product_of a (product_of b (inverse_of b))) a
    (product_of_den a (product_of b (inverse_of b)) ha (product_of_den b (inverse_of b) hb (inverse_of_den b more)))
    (product_of_left_comm b a (inverse_of b))
    (same_trans (product_of a (product_of b (inverse_of b))) (product_of a (whole (pos 1))) a
    (product_of_den a (whole (pos 1)) ha (whole_den (pos 1)))
    (product_of-same a (product_of b (inverse_of b)) a (whole (pos 1)) (same_refl a) (product_of-inverse_of b))
    (product_of-one a))

-- ---- whole numbers among the fractions
pub sum_of-whole : (a b : ℤ) → IsSame (sum_of (whole a) (whole b)) (whole (a +ℤ b))
unfolding sum_of
sum_of-whole a b = ring (a ∷ b ∷ []) ((x0 ⊗ number (pos 1) ⊕ x1 ⊗ number (pos 1)) ⊗ number (pos 1)) ((x0 ⊕ x1) ⊗ number (pos 1)) refl

pub product_of-whole : (a b : ℤ) → IsSame (product_of (whole a) (whole b)) (whole (a *ℤ b))
unfolding product_of
product_of-whole a b = refl

pub negated-whole : (a : ℤ) → IsSame (negated (whole a)) (whole (neg_ℤ a))
unfolding negated
negated-whole a = refl

-- a fraction times its denominator is its numerator
pub product_of-den : (a : Fraction) → IsSame (product_of a (whole (pos a.den))) (whole a.num)
unfolding product_of
product_of-den a =
    ring (a.num ∷ pos a.den ∷ []) (x0 ⊗ x1 ⊗ number (pos 1)) (x0 ⊗ (x1 ⊗ number (pos 1))) refl
