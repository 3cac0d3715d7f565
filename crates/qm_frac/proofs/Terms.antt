-- Fractions in lowest terms.
use Rattle.std.proofs.Common.{◌≡◌, ℕ, zero, suc, ◌*◌, ◌/◌, ◌^◌, ◌<◌, ℤ, pos, negsuc, neg_ℤ, unsigned_abs, Bool, true, false, not, refl, sym, ap, ap₂, ◌∙◌, arith, ⊎_elim, eq-zero-or-pos}
use native.Mathlib.Nat.{one-dvd, zero-div, div-mul_cancel, div-le_self}
use Rattle.std.proofs.Math.Nat.{div-one}
use mathlib.Core.Bool.{beq}
use lib.Signed.{lt_z}
use Rattle.qm_math.specs.Fraction.{Fraction}
use Rattle.qm_frac.specs.Gcd.{gcd_of}
use Rattle.qm_frac.specs.Signs.{signed, is_below_zero}
use Rattle.qm_frac.specs.Lowest.{IsFrac, IsInRange, lowest_parts, lowest, lowest_terms}
use Rattle.qm_frac.proofs.Divisors.{gcd_is, gcd_pos, gcd_from_IsGcd, IsCoprime, IsCoprime-quotients}
use Rattle.qm_frac.proofs.SignLaws.{unsigned_abs-signed, below_zero_is, signed_abs}

-- the second quotient by the greatest common divisor is positive
pub quotient_pos : (n d : ℕ) → 0 < d → 0 < d / gcd_of n d
quotient_pos n d some =
    let g = gcd_is n d in
    let whole : d / gcd_of n d * gcd_of n d ≡ d = div-mul_cancel (gcd_of n d) g.1 in
    let at_zero : d / gcd_of n d ≡ 0 → 0 < d / gcd_of n d = λ e. absurd (let w : 0 * gcd_of n d ≡ d = rw e at whole in omega arith) in
    ⊎_elim at_zero (λ p. p) (eq-zero-or-pos (d / gcd_of n d))

-- what the code makes of a sign and two quotients
pub parts_are : (minus : Bool) (n d m e : ℕ) → m ≡ n / gcd_of n d → e ≡ d / gcd_of n d → (record { num = signed minus m; den = e }) ≡ lowest_parts minus n d
unfolding lowest_parts
parts_are minus n d m e num den =
    let pair : ℕ → ℕ → Fraction = λ x y. record { num = signed minus x; den = y } in
    ap₂ pair num den

pub fraction_is : (minus : Bool) (m e : ℕ) → 0 < e → IsCoprime m e → m < 2 ^ 127 → e < 2 ^ 127 → IsFrac (record { num = signed minus m; den = e })
fraction_is minus m e some co m_fits e_fits =
    let abs = unsigned_abs-signed minus m in
    record { positive = some; lowest = rw abs (gcd_from_IsGcd m e 1 co); num_fits = rw abs m_fits; den_fits = e_fits }

pub lowest_is : (minus : Bool) (n d m e : ℕ) → 0 < d → m ≡ n / gcd_of n d → e ≡ d / gcd_of n d → m < 2 ^ 127 → e < 2 ^ 127 → IsFrac (record { num = signed minus m; den = e })
lowest_is minus n d m e some num den m_fits e_fits =
    fraction_is minus m e (rw den (quotient_pos n d some)) (rw (num, den) (IsCoprime-quotients n d (gcd_pos n d some))) m_fits e_fits

pub in_range_is : (minus : Bool) (n d : ℕ) → IsInRange (lowest_parts minus n d) → (n / gcd_of n d < 2 ^ 127) × (d / gcd_of n d < 2 ^ 127)
unfolding lowest_parts
in_range_is minus n d h = (rw unsigned_abs-signed at h.num_fits, h.den_fits)

pub in_range_from : (minus : Bool) (n d : ℕ) → n / gcd_of n d < 2 ^ 127 → d / gcd_of n d < 2 ^ 127 → IsInRange (lowest_parts minus n d)
unfolding lowest_parts
in_range_from minus n d p q = record { num_fits = rw (unsigned_abs-signed minus (n / gcd_of n d)) p; den_fits = q }

-- quotients are no greater
pub in_range_small : (z : ℤ) (d : ℕ) → unsigned_abs z < 2 ^ 127 → d < 2 ^ 127 → IsInRange (lowest z d)
in_range_small z d p q =
    let n = div-le_self (unsigned_abs z) (gcd_of (unsigned_abs z) d) in
    let m = div-le_self d (gcd_of (unsigned_abs z) d) in
    in_range_from (is_below_zero z) (unsigned_abs z) d (omega arith) (omega arith)

-- lowest terms in range are a fraction of the program
pub IsFrac-lowest : (z : ℤ) (d : ℕ) → 0 < d → IsInRange (lowest z d) → IsFrac (lowest z d)
unfolding lowest_parts
IsFrac-lowest z d some h =
    let parts = in_range_is (is_below_zero z) (unsigned_abs z) d h in
    lowest_is (is_below_zero z) (unsigned_abs z) d _ _ some refl refl parts.0 parts.1

-- ---- the signs of a numerator and a denominator

-- zero has no sign
zero_parts : (d : ℕ) → lowest_parts true 0 d ≡ lowest_parts false 0 d
unfolding lowest_parts
zero_parts d =
    let pair : ℤ → Fraction = λ x. record { num = x; den = d / gcd_of 0 d } in
    ap (λ (n : ℕ). pair (signed true n)) (zero-div (gcd_of 0 d)) ∙ sym (ap (λ (n : ℕ). pair (signed false n)) (zero-div (gcd_of 0 d)))

-- a negated magnitude
pub neg_parts : (n d : ℕ) → lowest_parts true n d ≡ lowest (neg_ℤ (pos n)) d
neg_parts zero d = zero_parts d
neg_parts (suc n) d = refl

by_signs : (num den : ℤ) → lowest_parts (not (beq (is_below_zero num) (is_below_zero den))) (unsigned_abs num) (unsigned_abs den) ≡ lowest_terms num den
by_signs (pos n) (pos d) = refl
by_signs (pos zero) (negsuc d) = zero_parts (suc d)
by_signs (pos (suc n)) (negsuc d) = refl
by_signs (negsuc n) (pos d) = refl
by_signs (negsuc n) (negsuc d) = refl

pub lowest_by_signs : (num den : ℤ) → lowest_parts (not (beq (lt_z num (pos 0)) (lt_z den (pos 0)))) (unsigned_abs num) (unsigned_abs den) ≡ lowest_terms num den
lowest_by_signs num den = rw (below_zero_is num, below_zero_is den) (by_signs num den)

-- ---- fractions that are in lowest terms already

pub whole_is : (z : ℤ) → unsigned_abs z < 2 ^ 127 → IsFrac (record { num = z; den = 1 })
whole_is z h = record {
  positive = omega arith;
  lowest = gcd_from_IsGcd (unsigned_abs z) 1 1 (one-dvd (unsigned_abs z), one-dvd 1, λ d p q. q);
  num_fits = h;
  den_fits = omega arith;
}

-- what is in lowest terms stays as it is
pub lowest_again : (r : Fraction) → IsFrac r → lowest r.num r.den ≡ r
unfolding lowest_parts
lowest_again r h =
    let pair : ℤ → ℕ → Fraction = λ x y. record { num = x; den = y } in
    let n = unsigned_abs r.num in
    let num : signed (is_below_zero r.num) (n / gcd_of n r.den) ≡ r.num =
    ap (λ (x : ℕ). signed (is_below_zero r.num) (n / x)) h.lowest ∙ ap (λ (x : ℕ). signed (is_below_zero r.num) x) (div-one n) ∙ signed_abs r.num in
    let den : r.den / gcd_of n r.den ≡ r.den = ap (λ (x : ℕ). r.den / x) h.lowest ∙ div-one r.den in
    ap₂ pair num den
