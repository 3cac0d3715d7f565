-- Fractions in order.
use Rattle.std.proofs.Common.{◌≡◌, ◌<◌, arith, inl, inr, ◌⊎◌, pos, ◌*ℤ◌, ◌≤ℤ◌, ◌<ℤ◌}
use Rattle.std.proofs.lemmas.Int.{ints, by_lt_z}
use Rattle.qm_math.specs.Fraction.{Fraction, IsAtMost, IsBelow, IsSame}
use Rattle.qm_math.proofs.Whole.{scaled_le, scaled_lt, cancel_le, cancel_lt, *ℤ_swap}

pub at_most_or_below : (a b : Fraction) → IsAtMost a b ⊎ IsBelow b a
at_most_or_below a b =
    by_lt_z (b.num *ℤ pos a.den) (a.num *ℤ pos b.den) (λ less. inr less) (λ le. inl le)

pub at_most_both : (a b : Fraction) → IsAtMost a b → IsAtMost b a → IsSame a b
at_most_both a b h k = omega (arith, ints, h, k)

-- the products that a chain a, b, c compares, brought to one form
swapped : (a b c : Fraction) → (a.num *ℤ pos b.den) *ℤ pos c.den ≡ (a.num *ℤ pos c.den) *ℤ pos b.den
swapped a b c = *ℤ_swap a.num (pos b.den) (pos c.den)

pub at_most_trans : (a b c : Fraction) → 0 < b.den → IsAtMost a b → IsAtMost b c → IsAtMost a c
at_most_trans a b c more h k =
    let first : ((a.num *ℤ pos b.den) *ℤ pos c.den) ≤ℤ ((b.num *ℤ pos a.den) *ℤ pos c.den) = scaled_le (a.num *ℤ pos b.den) (b.num *ℤ pos a.den) c.den h in
    let second : ((b.num *ℤ pos c.den) *ℤ pos a.den) ≤ℤ ((c.num *ℤ pos b.den) *ℤ pos a.den) = scaled_le (b.num *ℤ pos c.den) (c.num *ℤ pos b.den) a.den k in
    let e1 = swapped a b c in
    let e2 = *ℤ_swap b.num (pos a.den) (pos c.den) in
    let e3 = *ℤ_swap c.num (pos b.den) (pos a.den) in
    cancel_le (a.num *ℤ pos c.den) (c.num *ℤ pos a.den) b.den more (omega (arith, ints, first, second, e1, e2, e3))

pub below_at_most : (a b c : Fraction) → 0 < c.den → IsBelow a b → IsAtMost b c → IsBelow a c
below_at_most a b c more h k =
    let first : ((a.num *ℤ pos b.den) *ℤ pos c.den) <ℤ ((b.num *ℤ pos a.den) *ℤ pos c.den) = scaled_lt (a.num *ℤ pos b.den) (b.num *ℤ pos a.den) c.den more h in
    let second : ((b.num *ℤ pos c.den) *ℤ pos a.den) ≤ℤ ((c.num *ℤ pos b.den) *ℤ pos a.den) = scaled_le (b.num *ℤ pos c.den) (c.num *ℤ pos b.den) a.den k in
    let e1 = swapped a b c in
    let e2 = *ℤ_swap b.num (pos a.den) (pos c.den) in
    let e3 = *ℤ_swap c.num (pos b.den) (pos a.den) in
    cancel_lt (a.num *ℤ pos c.den) (c.num *ℤ pos a.den) b.den (omega (arith, ints, first, second, e1, e2, e3))

pub at_most_below : (a b c : Fraction) → 0 < a.den → IsAtMost a b → IsBelow b c → IsBelow a c
at_most_below a b c more h k =
    let first : ((a.num *ℤ pos b.den) *ℤ pos c.den) ≤ℤ ((b.num *ℤ pos a.den) *ℤ pos c.den) = scaled_le (a.num *ℤ pos b.den) (b.num *ℤ pos a.den) c.den h in
    let second : ((b.num *ℤ pos c.den) *ℤ pos a.den) <ℤ ((c.num *ℤ pos b.den) *ℤ pos a.den) = scaled_lt (b.num *ℤ pos c.den) (c.num *ℤ pos b.den) a.den more k in
    let e1 = swapped a b c in
    let e2 = *ℤ_swap b.num (pos a.den) (pos c.den) in
    let e3 = *ℤ_swap c.num (pos b.den) (pos a.den) in
    cancel_lt (a.num *ℤ pos c.den) (c.num *ℤ pos a.den) b.den (omega (arith, ints, first, second, e1, e2, e3))

pub below_at_most_weak : (a b : Fraction) → IsBelow a b → IsAtMost a b
below_at_most_weak a b h = omega (arith, ints, h)
