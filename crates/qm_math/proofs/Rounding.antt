-- Each fraction has one floor and one ceiling.
use Rattle.std.proofs.Common.{◌≡◌, ◌∙◌, sym, refl, ap, subst, ℕ, ◌+◌, ◌*◌, ◌/◌, ◌<◌, ◌≤◌, ◌↔◌, arith, [], ◌∷◌, ℤ, pos, negsuc, ◌+ℤ◌, ◌-ℤ◌, ◌*ℤ◌, neg_ℤ, ◌≤ℤ◌, ◌<ℤ◌}
use Rattle.std.proofs.lemmas.Int.{ints}
use Rattle.std.specs.Int.{int_div_euclid}
use Rattle.qm_math.specs.Fraction.{Fraction, whole, IsAtMost, IsBelow, IsSame}
use Rattle.qm_math.specs.Arithmetic.{negated}
use Rattle.qm_math.specs.Rounding.{IsFloor, IsCeil, floor_of, ceil_of}
use Rattle.qm_math.proofs.Whole.{add-*ℤ}
use Rattle.qm_math.proofs.Polynomials.{number, ◌⊕◌, ◌⊗◌, minus}
use Rattle.qm_math.proofs.Ring.{x0, x1, x2, ring, ring_le, ring_lt}
use Rattle.qm_math.proofs.Compare.{at_most_trans, at_most_below, below_at_most}
use Rattle.qm_math.proofs.FractionOrder.{at_most-same}
use Rattle.qm_math.proofs.FractionLaws.{whole_den, negated_den}

-- ---- there is one
quotient_low : (n d : ℕ) → n / d * d ≤ n
quotient_low n d = omega arith

quotient_high : (n d : ℕ) → 0 < d → n < n / d * d + d
quotient_high n d h = omega arith

pub floor_at : (z : ℤ) (d : ℕ) → 0 < d → ((int_div_euclid z (pos d) *ℤ pos d) ≤ℤ z) × (z <ℤ ((int_div_euclid z (pos d) *ℤ pos d) +ℤ pos d))
floor_at (pos n) d h = (omega (arith, ints, quotient_low n d), omega (arith, ints, quotient_high n d h))
floor_at (negsuc n) d h = (omega (arith, ints, quotient_high n d h), omega (arith, ints, quotient_low n d))

add_one-*ℤ : (z : ℤ) (d : ℕ) → (z +ℤ pos 1) *ℤ pos d ≡ (z *ℤ pos d) +ℤ pos d
add_one-*ℤ z d = add-*ℤ z (pos 1) (pos d) ∙ ap (λ k. (z *ℤ pos d) +ℤ k) (omega (arith, ints))

pub floor_of-IsFloor : (a : Fraction) → 0 < a.den → IsFloor (floor_of a) a
floor_of-IsFloor a h =
    let at = floor_at a.num a.den h in
    (omega (arith, ints, at.0), subst (λ k. (a.num *ℤ pos 1) <ℤ k) (sym (add_one-*ℤ (floor_of a) a.den)) (omega (arith, ints, at.1)))

-- ---- it is the greatest
pub IsFloor-greatest : (n : ℤ) (a : Fraction) (k : ℤ) → IsFloor n a → IsAtMost (whole k) a ↔ (k ≤ℤ n)
IsFloor-greatest n a k floor = (
  λ h. (let below : IsBelow (whole k) (whole (n +ℤ pos 1)) = at_most_below (whole k) a (whole (n +ℤ pos 1)) (whole_den k) h floor.1 in
      omega (arith, ints, below)),
  λ h. at_most_trans (whole k) (whole n) a (whole_den n) (omega (arith, ints, h)) floor.0,
)

pub IsFloor-one : (m n : ℤ) (a : Fraction) → IsFloor m a → IsFloor n a → m ≡ n
IsFloor-one m n a h k =
    let first = (IsFloor-greatest n a m k).0 h.0 in
    let second = (IsFloor-greatest m a n h).0 k.0 in
    omega (arith, ints, first, second)

-- the same number has the same floor
pub IsFloor-same : (n : ℤ) (a b : Fraction) → 0 < a.den → 0 < b.den → IsSame a b → IsFloor n a → IsFloor n b
IsFloor-same n a b ha hb e floor = (
  at_most_trans (whole n) a b ha floor.0 (at_most-same a b e),
  at_most_below b a (whole (n +ℤ pos 1)) hb (at_most-same b a (sym e)) floor.1,
)

-- ---- the same turned round
pub IsCeil-least : (n : ℤ) (a : Fraction) (k : ℤ) → IsCeil n a → IsAtMost a (whole k) ↔ (n ≤ℤ k)
IsCeil-least n a k ceil = (
  λ h. (let below : IsBelow (whole (n -ℤ pos 1)) (whole k) = below_at_most (whole (n -ℤ pos 1)) a (whole k) (whole_den k) ceil.1 h in
      omega (arith, ints, below)),
  λ h. at_most_trans a (whole n) (whole k) (whole_den n) ceil.0 (omega (arith, ints, h)),
)

pub IsCeil-one : (m n : ℤ) (a : Fraction) → IsCeil m a → IsCeil n a → m ≡ n
IsCeil-one m n a h k =
    let first = (IsCeil-least m a n h).0 k.0 in
    let second = (IsCeil-least n a m k).0 h.0 in
    omega (arith, ints, first, second)

pub IsCeil-same : (n : ℤ) (a b : Fraction) → 0 < a.den → 0 < b.den → IsSame a b → IsCeil n a → IsCeil n b
IsCeil-same n a b ha hb e ceil = (
  at_most_trans b a (whole n) ha (at_most-same b a (sym e)) ceil.0,
  below_at_most (whole (n -ℤ pos 1)) a b hb ceil.1 (at_most-same a b e),
)

-- the negative of a floor is the ceiling of the negative
pub IsCeil-negated : (n : ℤ) (a : Fraction) → IsFloor n (negated a) → IsCeil (neg_ℤ n) a
unfolding negated
IsCeil-negated n a floor = (
  ring_le (n ∷ a.num ∷ pos a.den ∷ []) (x1 ⊗ number (pos 1)) (minus x0 ⊗ x2) (x0 ⊗ x2) (minus x1 ⊗ number (pos 1)) floor.0 refl,
  ring_lt (n ∷ a.num ∷ pos a.den ∷ []) ((minus x0 ⊕ number (negsuc 0)) ⊗ x2) (x1 ⊗ number (pos 1))
      (minus x1 ⊗ number (pos 1)) ((x0 ⊕ number (pos 1)) ⊗ x2) floor.1 refl,
)

pub ceil_of-IsCeil : (a : Fraction) → 0 < a.den → IsCeil (ceil_of a) a
unfolding negated
ceil_of-IsCeil a h = IsCeil-negated (floor_of (negated a)) a (floor_of-IsFloor (negated a) (negated_den a h))

pub ceil_at : (z : ℤ) (d : ℕ) → 0 < d
    → (z ≤ℤ (neg_ℤ (int_div_euclid (neg_ℤ z) (pos d)) *ℤ pos d)) × ((neg_ℤ (int_div_euclid (neg_ℤ z) (pos d)) *ℤ pos d) <ℤ (z +ℤ pos d))
ceil_at z d h =
    let f = int_div_euclid (neg_ℤ z) (pos d) in
    let at = floor_at (neg_ℤ z) d h in
    let turned : (neg_ℤ f *ℤ pos d) ≡ neg_ℤ (f *ℤ pos d) = ring (f ∷ pos d ∷ []) (minus x0 ⊗ x1) (minus (x0 ⊗ x1)) refl in
    (omega (arith, ints, turned, at.0), omega (arith, ints, turned, at.1))

-- a whole number is its own floor and ceiling
pub IsFloor-whole : (n : ℤ) → IsFloor n (whole n)
IsFloor-whole n = (omega (arith, ints), omega (arith, ints))

pub IsCeil-whole : (n : ℤ) → IsCeil n (whole n)
IsCeil-whole n = (omega (arith, ints), omega (arith, ints))
