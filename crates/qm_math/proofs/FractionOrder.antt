-- The order of fractions: what sums, products and negatives keep, and what turns it round.
use Rattle.std.proofs.Common.{◌≡◌, sym, refl, ℕ, ◌*◌, ◌<◌, ◌↔◌, arith, mul-pos, [], ◌∷◌, ℤ, pos, ◌+ℤ◌, ◌*ℤ◌, ◌≤ℤ◌, ◌<ℤ◌}
use Rattle.std.proofs.lemmas.Int.{ints}
use Rattle.qm_math.specs.Fraction.{Fraction, whole, IsAtMost, IsBelow, IsSame}
use Rattle.qm_math.specs.Arithmetic.{sum_of, negated, difference_of, product_of}
use Rattle.qm_math.proofs.Whole.{cancel_le, cancel_lt, le_sum}
use Rattle.qm_math.proofs.Products.{*ℤ-le, *ℤ-le_turned, *ℤ-lt}
use Rattle.qm_math.proofs.Polynomials.{◌⊕◌, ◌⊗◌, minus}
use Rattle.qm_math.proofs.Ring.{x0, x1, x2, x3, x4, x5, x6, x7, ring, ring_le, ring_lt}
use Rattle.qm_math.proofs.Compare.{at_most_trans, below_at_most, at_most_below}

pos_nonneg : (n : ℕ) → pos 0 ≤ℤ pos n
pos_nonneg n = omega (arith, ints)

pos_above : (n : ℕ) → 0 < n → pos 0 <ℤ pos n
pos_above n h = omega (arith, ints)

lt_sum : (a b c d : ℤ) → a <ℤ b → c ≤ℤ d → (a +ℤ c) <ℤ (b +ℤ d)
lt_sum a b c d h k = omega (arith, ints)

-- ---- the order itself
pub at_most_refl : (a : Fraction) → IsAtMost a a
at_most_refl a = omega (arith, ints)

pub at_most-same : (a b : Fraction) → IsSame a b → IsAtMost a b
at_most-same a b e = omega (arith, ints, e)

pub below_trans : (a b c : Fraction) → 0 < b.den → 0 < c.den → IsBelow a b → IsBelow b c → IsBelow a c
below_trans a b c hb hc h k = below_at_most a b c hc h (omega (arith, ints, k))

pub below_irrefl : (a : Fraction) → IsBelow a a → ⊥
below_irrefl a h = omega (arith, ints, h)

pub not_at_most_below : (a b : Fraction) → IsAtMost a b → IsBelow b a → ⊥
not_at_most_below a b h k = omega (arith, ints, h, k)

-- both sides replaced by the same numbers
pub at_most_congr : (a b c d : Fraction) → 0 < a.den → 0 < b.den → IsSame a c → IsSame b d → IsAtMost a b → IsAtMost c d
at_most_congr a b c d ha hb e k h =
    at_most_trans c a d ha (at_most-same c a (sym e)) (at_most_trans a b d hb h (at_most-same b d k))

pub below_congr : (a b c d : Fraction) → 0 < a.den → 0 < b.den → 0 < c.den → 0 < d.den → IsSame a c → IsSame b d → IsBelow a b → IsBelow c d
below_congr a b c d ha hb hc hd e k h =
    at_most_below c a d hc (at_most-same c a (sym e)) (below_at_most a b d hd h (at_most-same b d k))

-- ---- sums
pub sum_of-at_most : (a b c d : Fraction) → IsAtMost a c → IsAtMost b d → IsAtMost (sum_of a b) (sum_of c d)
unfolding sum_of
sum_of-at_most a b c d h k =
    let first = *ℤ-le (pos (b.den * d.den)) (a.num *ℤ pos c.den) (c.num *ℤ pos a.den) (pos_nonneg (b.den * d.den)) h in
    let second = *ℤ-le (pos (a.den * c.den)) (b.num *ℤ pos d.den) (d.num *ℤ pos b.den) (pos_nonneg (a.den * c.den)) k in
    ring_le (a.num ∷ pos a.den ∷ b.num ∷ pos b.den ∷ c.num ∷ pos c.den ∷ d.num ∷ pos d.den ∷ [])
    ((x0 ⊗ x3 ⊕ x2 ⊗ x1) ⊗ (x5 ⊗ x7)) ((x4 ⊗ x7 ⊕ x6 ⊗ x5) ⊗ (x1 ⊗ x3))
    (x3 ⊗ x7 ⊗ (x0 ⊗ x5) ⊕ x1 ⊗ x5 ⊗ (x2 ⊗ x7)) (x3 ⊗ x7 ⊗ (x4 ⊗ x1) ⊕ x1 ⊗ x5 ⊗ (x6 ⊗ x3))
    (le_sum
    (pos (b.den * d.den) *ℤ (a.num *ℤ pos c.den)) (pos (b.den * d.den) *ℤ (c.num *ℤ pos a.den))
    (pos (a.den * c.den) *ℤ (b.num *ℤ pos d.den)) (pos (a.den * c.den) *ℤ (d.num *ℤ pos b.den)) first second)
    refl

pub sum_of-below : (a b c d : Fraction) → 0 < b.den → 0 < d.den → IsBelow a c → IsAtMost b d → IsBelow (sum_of a b) (sum_of c d)
unfolding sum_of
sum_of-below a b c d hb hd h k =
    let first = *ℤ-lt (pos (b.den * d.den)) (a.num *ℤ pos c.den) (c.num *ℤ pos a.den) (pos_above (b.den * d.den) (mul-pos hb hd)) h in
    let second = *ℤ-le (pos (a.den * c.den)) (b.num *ℤ pos d.den) (d.num *ℤ pos b.den) (pos_nonneg (a.den * c.den)) k in
    ring_lt (a.num ∷ pos a.den ∷ b.num ∷ pos b.den ∷ c.num ∷ pos c.den ∷ d.num ∷ pos d.den ∷ [])
    ((x0 ⊗ x3 ⊕ x2 ⊗ x1) ⊗ (x5 ⊗ x7)) ((x4 ⊗ x7 ⊕ x6 ⊗ x5) ⊗ (x1 ⊗ x3))
    (x3 ⊗ x7 ⊗ (x0 ⊗ x5) ⊕ x1 ⊗ x5 ⊗ (x2 ⊗ x7)) (x3 ⊗ x7 ⊗ (x4 ⊗ x1) ⊕ x1 ⊗ x5 ⊗ (x6 ⊗ x3))
    (lt_sum
    (pos (b.den * d.den) *ℤ (a.num *ℤ pos c.den)) (pos (b.den * d.den) *ℤ (c.num *ℤ pos a.den))
    (pos (a.den * c.den) *ℤ (b.num *ℤ pos d.den)) (pos (a.den * c.den) *ℤ (d.num *ℤ pos b.den)) first second)
    refl

-- ---- negatives
pub negated-at_most : (a b : Fraction) → IsAtMost a b → IsAtMost (negated b) (negated a)
unfolding negated
negated-at_most a b h =
    ring_le (a.num ∷ pos a.den ∷ b.num ∷ pos b.den ∷ []) (minus x2 ⊗ x1) (minus x0 ⊗ x3) (x0 ⊗ x3) (x2 ⊗ x1) h refl

pub negated-below : (a b : Fraction) → IsBelow a b → IsBelow (negated b) (negated a)
unfolding negated
negated-below a b h =
    ring_lt (a.num ∷ pos a.den ∷ b.num ∷ pos b.den ∷ []) (minus x2 ⊗ x1) (minus x0 ⊗ x3) (x0 ⊗ x3) (x2 ⊗ x1) h refl

pub difference_of-at_most : (a b c d : Fraction) → IsAtMost a c → IsAtMost d b → IsAtMost (difference_of a b) (difference_of c d)
difference_of-at_most a b c d h k = sum_of-at_most a (negated b) c (negated d) h (negated-at_most d b k)

-- ---- products
-- a fraction that is not negative has a numerator that is not
pub nonneg_num : (k : Fraction) → IsAtMost (whole (pos 0)) k → pos 0 ≤ℤ k.num
nonneg_num k h = omega (arith, ints, h)

pub num_nonneg : (k : Fraction) → pos 0 ≤ℤ k.num → IsAtMost (whole (pos 0)) k
num_nonneg k h = omega (arith, ints, h)

pub nonpos_num : (k : Fraction) → IsAtMost k (whole (pos 0)) → k.num ≤ℤ pos 0
nonpos_num k h = omega (arith, ints, h)

pub num_nonpos : (k : Fraction) → k.num ≤ℤ pos 0 → IsAtMost k (whole (pos 0))
num_nonpos k h = omega (arith, ints, h)

pub above_of_num : (p : Fraction) → pos 0 <ℤ p.num → IsBelow (whole (pos 0)) p
above_of_num p h = omega (arith, ints, h)

pub num_of_above : (p : Fraction) → IsBelow (whole (pos 0)) p → pos 0 <ℤ p.num
num_of_above p h = omega (arith, ints, h)

pub below_of_num : (p : Fraction) → p.num <ℤ pos 0 → IsBelow p (whole (pos 0))
below_of_num p h = omega (arith, ints, h)

pub num_of_below : (p : Fraction) → IsBelow p (whole (pos 0)) → p.num <ℤ pos 0
num_of_below p h = omega (arith, ints, h)

-- the same number has the same sign
pub same_above : (a b : Fraction) → 0 < a.den → 0 < b.den → IsSame a b → pos 0 <ℤ a.num → pos 0 <ℤ b.num
same_above a b ad bd e h =
    let z = whole (pos 0) in
    num_of_above b (below_congr z a z b (omega arith) ad (omega arith) bd refl e (above_of_num a h))

pub same_below : (a b : Fraction) → 0 < a.den → 0 < b.den → IsSame a b → a.num <ℤ pos 0 → b.num <ℤ pos 0
same_below a b ad bd e h =
    let z = whole (pos 0) in
    num_of_below b (below_congr a z b z ad (omega arith) bd (omega arith) e refl (below_of_num a h))

scaled : (k : Fraction) (x y : ℤ) → pos 0 ≤ℤ k.num → x ≤ℤ y → (pos k.den *ℤ (k.num *ℤ x)) ≤ℤ (pos k.den *ℤ (k.num *ℤ y))
scaled k x y h e = *ℤ-le (pos k.den) (k.num *ℤ x) (k.num *ℤ y) (pos_nonneg k.den) (*ℤ-le k.num x y h e)

-- an order times a number that is not negative
pub product_of-at_most : (k a b : Fraction) → IsAtMost (whole (pos 0)) k → IsAtMost a b → IsAtMost (product_of k a) (product_of k b)
unfolding product_of
product_of-at_most k a b more h =
    ring_le (k.num ∷ pos k.den ∷ a.num ∷ pos a.den ∷ b.num ∷ pos b.den ∷ [])
    (x0 ⊗ x2 ⊗ (x1 ⊗ x5)) (x0 ⊗ x4 ⊗ (x1 ⊗ x3)) (x1 ⊗ (x0 ⊗ (x2 ⊗ x5))) (x1 ⊗ (x0 ⊗ (x4 ⊗ x3)))
    (scaled k (a.num *ℤ pos b.den) (b.num *ℤ pos a.den) (nonneg_num k more) h) refl

-- an order times a number that is not positive turns round
pub product_of-at_most_turned : (k a b : Fraction) → IsAtMost k (whole (pos 0)) → IsAtMost a b → IsAtMost (product_of k b) (product_of k a)
unfolding product_of
product_of-at_most_turned k a b less h =
    let turned = *ℤ-le_turned k.num (a.num *ℤ pos b.den) (b.num *ℤ pos a.den) (nonpos_num k less) h in
    ring_le (k.num ∷ pos k.den ∷ a.num ∷ pos a.den ∷ b.num ∷ pos b.den ∷ [])
    (x0 ⊗ x4 ⊗ (x1 ⊗ x3)) (x0 ⊗ x2 ⊗ (x1 ⊗ x5)) (x1 ⊗ (x0 ⊗ (x4 ⊗ x3))) (x1 ⊗ (x0 ⊗ (x2 ⊗ x5)))
    (*ℤ-le (pos k.den) (k.num *ℤ (b.num *ℤ pos a.den)) (k.num *ℤ (a.num *ℤ pos b.den)) (pos_nonneg k.den) turned) refl

pub product_of-below : (k a b : Fraction) → 0 < k.den → IsBelow (whole (pos 0)) k → IsBelow a b → IsBelow (product_of k a) (product_of k b)
unfolding product_of
product_of-below k a b hk more h =
    let times = *ℤ-lt k.num (a.num *ℤ pos b.den) (b.num *ℤ pos a.den) (omega (arith, ints, more)) h in
    ring_lt (k.num ∷ pos k.den ∷ a.num ∷ pos a.den ∷ b.num ∷ pos b.den ∷ [])
    (x0 ⊗ x2 ⊗ (x1 ⊗ x5)) (x0 ⊗ x4 ⊗ (x1 ⊗ x3)) (x1 ⊗ (x0 ⊗ (x2 ⊗ x5))) (x1 ⊗ (x0 ⊗ (x4 ⊗ x3)))
    (*ℤ-lt (pos k.den) (k.num *ℤ (a.num *ℤ pos b.den)) (k.num *ℤ (b.num *ℤ pos a.den)) (pos_above k.den hk) times) refl

-- ---- whole numbers among the fractions
pub whole-at_most : (a b : ℤ) → IsAtMost (whole a) (whole b) ↔ (a ≤ℤ b)
whole-at_most a b = (λ h. omega (arith, ints, h), λ h. omega (arith, ints, h))

pub whole-below : (a b : ℤ) → IsBelow (whole a) (whole b) ↔ (a <ℤ b)
whole-below a b = (λ h. omega (arith, ints, h), λ h. omega (arith, ints, h))

-- ---- linear reasoning: a is at most b if a known order x ≤ y makes up the difference, b + x = a + y
from_sums : (l r s t u v : ℤ) → l +ℤ t ≡ u → r +ℤ s ≡ v → u ≡ v → s ≤ℤ t → l ≤ℤ r
from_sums l r s t u v e k same h = omega (arith, ints)

from_sums_lt : (l r s t u v : ℤ) → l +ℤ t ≡ u → r +ℤ s ≡ v → u ≡ v → s <ℤ t → l <ℤ r
from_sums_lt l r s t u v e k same h = omega (arith, ints)

left_sum : (a b x y : Fraction)
    → ((a.num *ℤ pos b.den) *ℤ (pos x.den *ℤ pos y.den)) +ℤ ((pos b.den *ℤ pos a.den) *ℤ (y.num *ℤ pos x.den))
    ≡ ((a.num *ℤ pos y.den) +ℤ (y.num *ℤ pos a.den)) *ℤ (pos b.den *ℤ pos x.den)
left_sum a b x y =
    ring (a.num ∷ pos a.den ∷ pos b.den ∷ pos x.den ∷ y.num ∷ pos y.den ∷ [])
    (x0 ⊗ x2 ⊗ (x3 ⊗ x5) ⊕ x2 ⊗ x1 ⊗ (x4 ⊗ x3)) ((x0 ⊗ x5 ⊕ x4 ⊗ x1) ⊗ (x2 ⊗ x3)) refl

right_sum : (a b x y : Fraction)
    → ((b.num *ℤ pos a.den) *ℤ (pos x.den *ℤ pos y.den)) +ℤ ((pos b.den *ℤ pos a.den) *ℤ (x.num *ℤ pos y.den))
    ≡ ((b.num *ℤ pos x.den) +ℤ (x.num *ℤ pos b.den)) *ℤ (pos a.den *ℤ pos y.den)
right_sum a b x y =
    ring (b.num ∷ pos b.den ∷ pos a.den ∷ x.num ∷ pos x.den ∷ pos y.den ∷ [])
    (x0 ⊗ x2 ⊗ (x4 ⊗ x5) ⊕ x1 ⊗ x2 ⊗ (x3 ⊗ x5)) ((x0 ⊗ x4 ⊕ x3 ⊗ x1) ⊗ (x2 ⊗ x5)) refl

pub at_most_by : (a b x y : Fraction) → 0 < x.den → 0 < y.den → IsAtMost x y → IsSame (sum_of b x) (sum_of a y) → IsAtMost a b
unfolding sum_of
at_most_by a b x y hx hy h e =
    cancel_le (a.num *ℤ pos b.den) (b.num *ℤ pos a.den) (x.den * y.den) (mul-pos hx hy)
    (from_sums ((a.num *ℤ pos b.den) *ℤ (pos x.den *ℤ pos y.den)) ((b.num *ℤ pos a.den) *ℤ (pos x.den *ℤ pos y.den))
    ((pos b.den *ℤ pos a.den) *ℤ (x.num *ℤ pos y.den)) ((pos b.den *ℤ pos a.den) *ℤ (y.num *ℤ pos x.den))
    (((a.num *ℤ pos y.den) +ℤ (y.num *ℤ pos a.den)) *ℤ (pos b.den *ℤ pos x.den))
    (((b.num *ℤ pos x.den) +ℤ (x.num *ℤ pos b.den)) *ℤ (pos a.den *ℤ pos y.den))
    (left_sum a b x y) (right_sum a b x y) (sym e)
    (*ℤ-le (pos b.den *ℤ pos a.den) (x.num *ℤ pos y.den) (y.num *ℤ pos x.den) (pos_nonneg (b.den * a.den)) h))

pub below_by : (a b x y : Fraction) → 0 < a.den → 0 < b.den → IsBelow x y → IsSame (sum_of b x) (sum_of a y) → IsBelow a b
unfolding sum_of
below_by a b x y ha hb h e =
    cancel_lt (a.num *ℤ pos b.den) (b.num *ℤ pos a.den) (x.den * y.den)
    (from_sums_lt ((a.num *ℤ pos b.den) *ℤ (pos x.den *ℤ pos y.den)) ((b.num *ℤ pos a.den) *ℤ (pos x.den *ℤ pos y.den))
    ((pos b.den *ℤ pos a.den) *ℤ (x.num *ℤ pos y.den)) ((pos b.den *ℤ pos a.den) *ℤ (y.num *ℤ pos x.den))
    (((a.num *ℤ pos y.den) +ℤ (y.num *ℤ pos a.den)) *ℤ (pos b.den *ℤ pos x.den))
    (((b.num *ℤ pos x.den) +ℤ (x.num *ℤ pos b.den)) *ℤ (pos a.den *ℤ pos y.den))
    (left_sum a b x y) (right_sum a b x y) (sym e)
    (*ℤ-lt (pos b.den *ℤ pos a.den) (x.num *ℤ pos y.den) (y.num *ℤ pos x.den) (pos_above (b.den * a.den) (mul-pos hb ha)) h))
