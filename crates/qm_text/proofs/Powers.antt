-- Numbers with tens multiplied to them and divided out of them: when they are the same, and when they are in range.
use Rattle.std.proofs.Common.{◌≡◌, ℕ, zero, suc, ◌+◌, ◌-◌, ◌*◌, ◌/◌, ◌^◌, ◌<◌, ◌≤◌, min, pos, false, sym, ap, ap₂, ◌∙◌, subst, arith, inl, inr, Ok, Err}
use Rattle.std.specs.Prelude.{Result}
use Rattle.std.proofs.lemmas.Bool.{cases_lt}
use Rattle.std.proofs.lemmas.Nat.{pow-add}
use Rattle.std.proofs.Math.Nat.{one-le-pow, pow-le-pow_right, mul-div-mul_left, mul-le-mul_left, div-one}
use Rattle.std.proofs.lemmas.Nat.Gcd.{le_of_dvd}
use native.Mathlib.Nat.{one-dvd, div-mul_cancel, mul-le-mul_right}
use Rattle.qm_math.specs.Fraction.{Fraction}
use Rattle.qm_frac.specs.Gcd.{gcd_of}
use Rattle.qm_frac.specs.Lowest.{IsInRange, lowest_parts, lowest}
use Rattle.qm_frac.specs.Arithmetic.{quotient}
use Rattle.qm_frac.proofs.Divisors.{gcd_is, gcd_pos, gcd_from_IsGcd, IsGcd-mul}
use Rattle.qm_frac.proofs.Terms.{quotient_pos, in_range_is, in_range_small}
use Rattle.qm_text.specs.declared.fault.NumberFault.{NumberFault}
use Rattle.qm_text.specs.Decimals.{with_tens}
use Rattle.qm_text.specs.DecimalSteps.{IsAnswer}

ten : 0 < 10
ten = omega arith

pub ten_some : (k : ℕ) → 0 < 10 ^ k
ten_some k = one-le-pow k 10 (omega arith)

-- ---- a common factor

pub lowest_scaled : (k n d : ℕ) → 0 < k → 0 < d → lowest (pos (k * n)) (k * d) ≡ lowest (pos n) d
unfolding lowest_parts
lowest_scaled k n d some more =
    let g = gcd_of n d in
    let is : gcd_of (k * n) (k * d) ≡ k * g = gcd_from_IsGcd (k * n) (k * d) (k * g) (IsGcd-mul k n d g some (gcd_is n d)) in
    let pair : ℕ → ℕ → Fraction = λ x y. record { num = pos x; den = y } in
    ap₂ pair (ap (λ (x : ℕ). k * n / x) is ∙ mul-div-mul_left n g some) (ap (λ (x : ℕ). k * d / x) is ∙ mul-div-mul_left d g some)

pub whole_lowest : (m : ℕ) → lowest (pos m) 1 ≡ record { num = pos m; den = 1 }
unfolding lowest_parts
whole_lowest m =
    let one : gcd_of m 1 ≡ 1 = gcd_from_IsGcd m 1 1 (one-dvd m, one-dvd 1, λ d p q. q) in
    let pair : ℕ → ℕ → Fraction = λ x y. record { num = pos x; den = y } in
    ap₂ pair (ap (λ (x : ℕ). m / x) one ∙ div-one m) (ap (λ (x : ℕ). 1 / x) one)

-- ---- only the difference matters

swapped : (n p q : ℕ) → n * (p * q) ≡ p * (n * q)
swapped n p q = omega arith

times_one : (p : ℕ) → p ≡ p * 1
times_one p = omega arith

swapped_one : (n p : ℕ) → n * p ≡ p * (n * 1)
swapped_one n p = omega arith

powers : (a b : ℕ) → b ≤ a → 10 ^ a ≡ 10 ^ b * 10 ^ (a - b)
powers a b h = let split : a ≡ b + (a - b) = omega arith in ap (λ k. 10 ^ k) split ∙ pow-add 10 b (a - b)

pub more_above : (n a b : ℕ) → b ≤ a → with_tens n a b ≡ with_tens n (a - b) 0
more_above n a b h =
    let top : n * 10 ^ a ≡ 10 ^ b * (n * 10 ^ (a - b)) = ap (λ x. n * x) (powers a b h) ∙ swapped n (10 ^ b) (10 ^ (a - b)) in
    ap₂ (λ (x y : ℕ). lowest (pos x) y) top (times_one (10 ^ b)) ∙ lowest_scaled (10 ^ b) (n * 10 ^ (a - b)) 1 (ten_some b) (omega arith)

pub more_below : (n a b : ℕ) → a ≤ b → with_tens n a b ≡ with_tens n 0 (b - a)
more_below n a b h =
    ap₂ (λ (x y : ℕ). lowest (pos x) y) (swapped_one n (10 ^ a)) (powers b a h) ∙ lowest_scaled (10 ^ a) (n * 1) (10 ^ (b - a)) (ten_some a) (ten_some (b - a))

pub shifted : (n z a b : ℕ) → with_tens (n * 10 ^ z) a b ≡ with_tens n (z + a) b
shifted n z a b =
    let tens : n * 10 ^ z * 10 ^ a ≡ n * 10 ^ (z + a) = (let e : n * 10 ^ z * 10 ^ a ≡ n * (10 ^ z * 10 ^ a) = omega arith in e) ∙ ap (λ x. n * x) (sym (pow-add 10 z a)) in
    ap (λ (x : ℕ). lowest (pos x) (10 ^ b)) tens

nothing_over : (d : ℕ) → 0 < d → lowest (pos 0) d ≡ record { num = pos 0; den = 1 }
nothing_over d some =
    let none : 0 ≡ d * 0 = omega arith in
    ap₂ (λ (x y : ℕ). lowest (pos x) y) none (times_one d) ∙ lowest_scaled d 0 1 some (omega arith) ∙ whole_lowest 0

pub zero_tens : (a b : ℕ) → with_tens 0 a b ≡ record { num = pos 0; den = 1 }
zero_tens a b = let none : 0 * 10 ^ a ≡ 0 = omega arith in ap (λ (x : ℕ). lowest (pos x) (10 ^ b)) none ∙ nothing_over (10 ^ b) (ten_some b)

-- ---- what is in range

pub zero_in_range : (a b : ℕ) → IsInRange (with_tens 0 a b)
zero_in_range a b = subst IsInRange (sym (zero_tens a b)) (record { num_fits = omega arith; den_fits = omega arith })

pub whole_too_large : (m : ℕ) → 2 ^ 127 ≤ m → ¬ IsInRange (lowest (pos m) 1)
whole_too_large m large h = let fits = subst IsInRange (whole_lowest m) h in let small = fits.num_fits in absurd (omega arith)

pub many_above : (n k : ℕ) → 0 < n → 38 < k → ¬ IsInRange (with_tens n k 0)
many_above n k some many =
    let more : 39 ≤ k = omega arith in
    let power : 10 ^ 39 ≤ 10 ^ k = pow-le-pow_right ten more in
    let one : 1 ≤ n = omega arith in
    let times : 1 * 10 ^ k ≤ n * 10 ^ k = mul-le-mul_right (10 ^ k) one in
    whole_too_large (n * 10 ^ k) (omega arith)

-- the denominator that is left is too large
left_over : (p g q : ℕ) → q * g ≡ p → g < 10 ^ 38 → 10 ^ 77 ≤ p → 2 ^ 127 ≤ q
left_over p g q whole few many = elim (cases_lt q (2 ^ 127)) [
  | inl small ↦
      let most : g ≤ 10 ^ 38 = omega arith in
      let times : q * g ≤ q * 10 ^ 38 = mul-le-mul_left q most in
      absurd (omega arith)
  | inr large ↦ large
]

pub many_below : (n k : ℕ) → 0 < n → n < 10 ^ 38 → 76 < k → ¬ IsInRange (with_tens n 0 k)
many_below n k some few many h =
    let m = n * 1 in
    let g = gcd_of m (10 ^ k) in
    let is = gcd_is m (10 ^ k) in
    let positive : 0 < m = omega arith in
    let divisor : g ≤ m = le_of_dvd positive is.0 in
    let small : g < 10 ^ 38 = omega arith in
    let more : 77 ≤ k = omega arith in
    let power : 10 ^ 77 ≤ 10 ^ k = pow-le-pow_right ten more in
    let whole : 10 ^ k / g * g ≡ 10 ^ k = div-mul_cancel g is.1 in
    let large = left_over (10 ^ k) g (10 ^ k / g) whole small power in
    let fits = (in_range_is false m (10 ^ k) h).1 in
    absurd (omega arith)

pub few_below : (n k : ℕ) → n < 2 ^ 127 → k ≤ 38 → IsInRange (with_tens n 0 k)
few_below n k small few =
    let power : 10 ^ k ≤ 10 ^ 38 = pow-le-pow_right ten few in
    let m : n * 1 < 2 ^ 127 = omega arith in
    in_range_small (pos (n * 1)) (10 ^ k) m (omega arith)

-- a difference that is too large, on either side
pub far_above : (n a b : ℕ) → 0 < n → b + 38 < a → ¬ IsInRange (with_tens n a b)
far_above n a b some far h = many_above n (a - b) some (omega arith) (subst IsInRange (more_above n a b (omega arith)) h)

pub far_below : (n a b : ℕ) → 0 < n → n < 10 ^ 38 → a + 76 < b → ¬ IsInRange (with_tens n a b)
far_below n a b some few far h = many_below n (b - a) some few (omega arith) (subst IsInRange (more_below n a b (omega arith)) h)

-- ---- a quotient of powers

-- divided once more
pub divided_more : (n d m : ℕ) → 0 < d → 0 < m → quotient (lowest (pos n) d) (record { num = pos m; den = 1 }) ≡ lowest (pos n) (d * m)
unfolding lowest_parts
divided_more n d m some more =
    let g = gcd_of n d in
    let is = gcd_is n d in
    let positive = gcd_pos n d some in
    let left = quotient_pos n d some in
    let product : 0 < d / g * m = (let low : 1 * m ≤ d / g * m = mul-le-mul_right m left in omega arith) in
    let top : g * (n / g * 1) ≡ n = (let e : g * (n / g * 1) ≡ n / g * g = omega arith in e) ∙ div-mul_cancel g is.0 in
    let bottom : g * (d / g * m) ≡ d * m = (let e : g * (d / g * m) ≡ d / g * g * m = omega arith in e) ∙ ap (λ x. x * m) (div-mul_cancel g is.1) in
    sym (lowest_scaled g (n / g * 1) (d / g * m) positive product) ∙ ap₂ (λ (x y : ℕ). lowest (pos x) y) top bottom

-- ---- answers

-- both are out of range
both_out : (u v : Fraction) (answer : Result Fraction NumberFault) → ¬ IsInRange u → ¬ IsInRange v → IsAnswer u answer → IsAnswer v answer
both_out u v (Ok r) p q is = absurd (p is.1)
both_out u v (Err e) p q is = (is.0, q)

-- an exponent that stops at the greatest number of 128 bits answers as the exponent itself does
pub stopped_above : (n a b : ℕ) (answer : Result Fraction NumberFault) → n < 10 ^ 38 → b < 2 ^ 66 → IsAnswer (with_tens n (min a (2 ^ 128 - 1)) b) answer → IsAnswer (with_tens n a b) answer
stopped_above zero a b answer few short is = subst (λ v. IsAnswer v answer) (zero_tens (min a (2 ^ 128 - 1)) b ∙ sym (zero_tens a b)) is
stopped_above (suc n) a b answer few short is = elim (cases_lt a (2 ^ 128)) [
  | inl small ↦ let same : min a (2 ^ 128 - 1) ≡ a = omega arith in subst (λ k. IsAnswer (with_tens (suc n) k b) answer) same is
  | inr large ↦ both_out (with_tens (suc n) (min a (2 ^ 128 - 1)) b) (with_tens (suc n) a b) answer
      (far_above (suc n) (min a (2 ^ 128 - 1)) b (omega arith) (omega arith))
      (far_above (suc n) a b (omega arith) (omega arith))
      is
]

pub stopped_below : (n a b : ℕ) (answer : Result Fraction NumberFault) → n < 10 ^ 38 → a < 2 ^ 66 → IsAnswer (with_tens n a (min b (2 ^ 128 - 1))) answer → IsAnswer (with_tens n a b) answer
stopped_below zero a b answer few short is = subst (λ v. IsAnswer v answer) (zero_tens a (min b (2 ^ 128 - 1)) ∙ sym (zero_tens a b)) is
stopped_below (suc n) a b answer few short is = elim (cases_lt b (2 ^ 128)) [
  | inl small ↦ let same : min b (2 ^ 128 - 1) ≡ b = omega arith in subst (λ k. IsAnswer (with_tens (suc n) a k) answer) same is
  | inr large ↦ both_out (with_tens (suc n) a (min b (2 ^ 128 - 1))) (with_tens (suc n) a b) answer
      (far_below (suc n) a (min b (2 ^ 128 - 1)) (omega arith) few (omega arith))
      (far_below (suc n) a b (omega arith) few (omega arith))
      is
]

-- a power of ten that fits
pub small_power : (k : ℕ) → k ≤ 38 → 10 ^ k < 2 ^ 127
small_power k few = let power : 10 ^ k ≤ 10 ^ 38 = pow-le-pow_right ten few in omega arith

-- a power of ten that doesn't fit
pub large_power : (k : ℕ) → 38 < k → 2 ^ 128 ≤ 10 ^ k
large_power k many = let power : 10 ^ 39 ≤ 10 ^ k = pow-le-pow_right ten many in omega arith

-- the quotient by 10 ^ 38 and then by the tens that are left
pub divided_twice : (n k : ℕ) (a b : Fraction) → 38 < k → a ≡ lowest (pos n) (10 ^ 38) → b ≡ lowest (pos (10 ^ (k - 38))) 1 → quotient a b ≡ with_tens n 0 k
divided_twice n k a b more first second =
    let tens : 10 ^ 38 * 10 ^ (k - 38) ≡ 10 ^ k = sym (powers k 38 (omega arith)) in
    let whole : b ≡ record { num = pos (10 ^ (k - 38)); den = 1 } = second ∙ whole_lowest (10 ^ (k - 38)) in
    let one : n ≡ n * 1 = omega arith in
    ap₂ quotient first whole
    ∙ divided_more n (10 ^ 38) (10 ^ (k - 38)) (ten_some 38) (ten_some (k - 38))
    ∙ ap₂ (λ (x y : ℕ). lowest (pos x) y) one tens
