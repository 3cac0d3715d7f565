-- Two fractions of one value have one lowest form.
use Rattle.std.proofs.Common.{◌≡◌, ◌∙◌, refl, sym, ap, ap₂, subst, ℕ, suc, ◌*◌, ◌/◌, ◌<◌, ℤ, pos, negsuc, ◌*ℤ◌, neg_ℤ, unsigned_abs, Bool, true, false, arith, mul-pos, [], ◌∷◌}
use native.Mathlib.Nat.{div-mul_cancel, dvd-mul_right, eq_of_mul-eq-mul_right, pos_of_dvd_of_pos}
use Prim.Native.Nat.{◌∣◌}
use Rattle.std.proofs.lemmas.Int.{ints}
use Rattle.qm_math.specs.Fraction.{Fraction}
use Rattle.qm_math.proofs.Polynomials.{◌⊗◌}
use Rattle.qm_math.proofs.Ring.{x0, x1, x2, ring}
use Rattle.qm_frac.specs.Gcd.{gcd_of}
use Rattle.qm_frac.specs.Signs.{signed}
use Rattle.qm_frac.specs.Lowest.{lowest, lowest_parts}
use Rattle.qm_frac.proofs.SignLaws.{unsigned_abs-neg}
use Rattle.qm_frac.proofs.Divisors.{gcd_is, gcd_pos, lowest_unique, IsCoprime-quotients}
use Rattle.qm_frac.proofs.Terms.{quotient_pos}

-- ---- the parts of a lowest form

pub lowest_den_pos : (n : ℤ) (d : ℕ) → 0 < d → 0 < (lowest n d).den
unfolding lowest_parts
lowest_den_pos n d h = quotient_pos (unsigned_abs n) d h

pub lowest_den_dvd : (n : ℤ) (d : ℕ) → (lowest n d).den ∣ d
unfolding lowest_parts
lowest_den_dvd n d =
    let g = gcd_of (unsigned_abs n) d in
    subst (λ (m : ℕ). d / g ∣ m) (div-mul_cancel g (gcd_is (unsigned_abs n) d).1) (dvd-mul_right (d / g) g)

pub lowest_num_some : (n d : ℕ) → 0 < n → 0 < unsigned_abs (lowest (pos n) d).num
unfolding lowest_parts
lowest_num_some n d h =
    let g = gcd_of n d in
    pos_of_dvd_of_pos (subst (λ (m : ℕ). n / g ∣ m) (div-mul_cancel g (gcd_is n d).0) (dvd-mul_right (n / g) g)) h

-- ---- one value

-- products that are equal stay so without the divisors of their factors
reduced : (n d m e n' d' m' e' g k : ℕ) → 0 < g → 0 < k → n' * g ≡ n → d' * g ≡ d → m' * k ≡ m → e' * k ≡ e → n * e ≡ m * d → n' * e' ≡ m' * d'
reduced n d m e n' d' m' e' g k hg hk n_is d_is m_is e_is same =
    let left : (n' * e') * (g * k) ≡ n * e = (let a : (n' * e') * (g * k) ≡ (n' * g) * (e' * k) = omega arith in a) ∙ ap₂ (λ (x y : ℕ). x * y) n_is e_is in
    let right : (m' * d') * (g * k) ≡ m * d = (let a : (m' * d') * (g * k) ≡ (m' * k) * (d' * g) = omega arith in a) ∙ ap₂ (λ (x y : ℕ). x * y) m_is d_is in
    eq_of_mul-eq-mul_right (g * k) (mul-pos hg hk) (n' * e') (m' * d') (left ∙ same ∙ sym right)

same_parts : (minus : Bool) (n d m e : ℕ) → 0 < d → 0 < e → n * e ≡ m * d → lowest_parts minus n d ≡ lowest_parts minus m e
unfolding lowest_parts
same_parts minus n d m e hd he same =
    let g = gcd_is n d in
    let k = gcd_is m e in
    let cross = reduced n d m e (n / gcd_of n d) (d / gcd_of n d) (m / gcd_of m e) (e / gcd_of m e) (gcd_of n d) (gcd_of m e) (gcd_pos n d hd) (gcd_pos m e he)
    (div-mul_cancel (gcd_of n d) g.0) (div-mul_cancel (gcd_of n d) g.1) (div-mul_cancel (gcd_of m e) k.0) (div-mul_cancel (gcd_of m e) k.1) same in
    let both = lowest_unique (n / gcd_of n d) (d / gcd_of n d) (m / gcd_of m e) (e / gcd_of m e)
    (IsCoprime-quotients n d (gcd_pos n d hd)) (IsCoprime-quotients m e (gcd_pos m e he)) (quotient_pos n d hd) (quotient_pos m e he) cross in
    let pair : ℕ → ℕ → Fraction = λ x y. record { num = signed minus x; den = y } in
    ap₂ pair both.0 both.1

-- a value that isn't below zero is none that is
other_signs : (n d m e : ℕ) → 0 < d → pos (n * e) ≡ neg_ℤ (pos (suc m * d)) → lowest (pos n) d ≡ lowest (negsuc m) e
other_signs n d m e hd same =
    let some : 0 < suc m * d = mul-pos (omega arith) hd in
    absurd (omega (arith, ints, same, some))

pub lowest_same : (a b : ℤ) (d e : ℕ) → 0 < d → 0 < e → a *ℤ pos e ≡ b *ℤ pos d → lowest a d ≡ lowest b e
lowest_same (pos n) (pos m) d e hd he same = same_parts false n d m e hd he (ap unsigned_abs same)
lowest_same (pos n) (negsuc m) d e hd he same = other_signs n d m e hd same
lowest_same (negsuc n) (pos m) d e hd he same = sym (other_signs m e n d he (sym same))
lowest_same (negsuc n) (negsuc m) d e hd he same =
    same_parts true (suc n) d (suc m) e hd he (sym (unsigned_abs-neg (pos (suc n * e))) ∙ ap unsigned_abs same ∙ unsigned_abs-neg (pos (suc m * d)))

-- a common factor isn't seen
pub lowest_scaled : (a : ℤ) (d h : ℕ) → 0 < d → 0 < h → lowest (a *ℤ pos h) (d * h) ≡ lowest a d
lowest_scaled a d h hd hh =
    lowest_same (a *ℤ pos h) a (d * h) d (mul-pos hd hh) hd
    (ring (a ∷ pos d ∷ pos h ∷ []) (x0 ⊗ x2 ⊗ x1) (x0 ⊗ (x1 ⊗ x2)) refl)
