-- The sum of two fractions whose denominators divide one number: no step of it is larger than over that number.
use Rattle.std.proofs.Common.{◌≡◌, ◌∙◌, refl, sym, ap, ap₂, subst, ℕ, ◌*◌, ◌/◌, ◌≤◌, ◌<◌, ◌^◌, ℤ, pos, ◌+ℤ◌, ◌*ℤ◌, unsigned_abs, arith, mul-pos, [], ◌∷◌}
use native.Mathlib.Nat.{div-mul_cancel, dvd-mul_right, mul-dvd-mul_left, dvd_of_mul-dvd-mul_left, pos_of_dvd_of_pos}
use Prim.Native.Nat.{◌∣◌}
use Rattle.std.proofs.lemmas.Int.{unsigned_abs-mul}
use Rattle.std.proofs.lemmas.Nat.Gcd.{le_of_dvd}
use Rattle.std.proofs.Math.Nat.{le-mul_of_pos_right}
use Rattle.qm_math.specs.Fraction.{Fraction}
use Rattle.qm_math.proofs.Products.{cancel_same}
use Rattle.qm_math.proofs.Polynomials.{number, ◌⊗◌}
use Rattle.qm_math.proofs.Ring.{x0, x1, x2, x3, x4, x5, x6, x7, x8, ring_from}
use Rattle.qm_math.proofs.Whole.{add-*ℤ}
use Rattle.qm_frac.specs.Gcd.{gcd_of}
use Rattle.qm_frac.specs.Lowest.{lowest}
use Rattle.qm_frac.specs.Arithmetic.{SumFits, common_den, left_num, right_num, sum}
use Rattle.qm_frac.proofs.Divisors.{coprime_dvd, gcd_is, gcd_pos, IsCoprime-quotients, IsCoprime-swap}
use Rattle.qm_frac.proofs.Terms.{quotient_pos}
use Rattle.qm_frac.proofs.SameLowest.{lowest_scaled}

-- a number is no larger than a multiple of it
le_multiple : (z x : ℤ) (k : ℕ) → 0 < k → z *ℤ pos k ≡ x → unsigned_abs z ≤ unsigned_abs x
le_multiple z x k some is =
    let size : unsigned_abs x ≡ unsigned_abs z * k = sym (ap unsigned_abs is) ∙ unsigned_abs-mul z (pos k) in
    let le = le-mul_of_pos_right (unsigned_abs z) some in
    omega (arith, size, le)

-- the least common multiple divides each common multiple
least_divides : (d e M : ℕ) → 0 < e → d ∣ M → e ∣ M → d * (e / gcd_of d e) ∣ M
least_divides d e M he dm em =
    let g = gcd_of d e in
    let is = gcd_is d e in
    let some = gcd_pos d e he in
    let p = d / g in
    let q = e / g in
    let x = M / d in
    let whole : x * d ≡ M = div-mul_cancel d dm in
    let d_is : p * g ≡ d = div-mul_cancel g is.0 in
    let e_is : q * g ≡ e = div-mul_cancel g is.1 in
    let over : g * q ∣ g * (p * x) =
    subst (λ (n : ℕ). n ∣ g * (p * x)) (let a : q * g ≡ g * q = omega arith in sym e_is ∙ a)
    (subst (λ (n : ℕ). e ∣ n) (sym whole ∙ ap (λ (n : ℕ). x * n) (sym d_is) ∙ (let a : x * (p * g) ≡ g * (p * x) = omega arith in a)) em) in
    let shared : q ∣ p * x = dvd_of_mul-dvd-mul_left q some over in
    let last : q ∣ x = coprime_dvd q p x (IsCoprime-swap p q (IsCoprime-quotients d e some)) shared in
    subst (λ (n : ℕ). d * q ∣ n) ((let a : d * x ≡ x * d = omega arith in a) ∙ whole) (mul-dvd-mul_left q d last)

-- a, which is x over M, and b, which is y over M
module _ (a b : Fraction) (M : ℕ) (x y : ℤ) (ha : 0 < a.den) (hb : 0 < b.den) (hM : 0 < M) (am : a.den ∣ M) (bm : b.den ∣ M)
    (a_is : a.num *ℤ pos M ≡ x *ℤ pos a.den) (b_is : b.num *ℤ pos M ≡ y *ℤ pos b.den) where
  times : ℕ
  times = M / common_den a b

  divides : common_den a b ∣ M
  divides = least_divides a.den b.den M hb am bm

  whole : times * common_den a b ≡ M
  unfolding times
  whole = div-mul_cancel (common_den a b) divides

  times_some : 0 < times
  times_some = pos_of_dvd_of_pos (subst (λ (n : ℕ). times ∣ n) whole (dvd-mul_right times (common_den a b))) hM

  left_is : left_num a b *ℤ pos times ≡ x
  left_is =
      let q = b.den / gcd_of a.den b.den in
      cancel_same (left_num a b *ℤ pos times) x a.den ha
      (ring_from (a.num ∷ pos q ∷ pos times ∷ pos a.den ∷ pos M ∷ x ∷ []) (x0 ⊗ x1 ⊗ x2 ⊗ x3) (x5 ⊗ x3)
      ((x0, x2 ⊗ (x3 ⊗ x1), x4) ∷ (number (pos 1), x0 ⊗ x4, x5 ⊗ x3) ∷ []) (ap pos whole, (a_is, tt)) refl)

  right_is : right_num a b *ℤ pos times ≡ y
  right_is =
      let g = gcd_of a.den b.den in
      let is = gcd_is a.den b.den in
      let p = a.den / g in
      let q = b.den / g in
      let p_is : p * g ≡ a.den = div-mul_cancel g is.0 in
      let q_is : q * g ≡ b.den = div-mul_cancel g is.1 in
      cancel_same (right_num a b *ℤ pos times) y b.den hb
      (ring_from (b.num ∷ pos p ∷ pos times ∷ pos b.den ∷ pos M ∷ y ∷ pos a.den ∷ pos q ∷ pos g ∷ []) (x0 ⊗ x1 ⊗ x2 ⊗ x3) (x5 ⊗ x3)
      ((x0 ⊗ x2 ⊗ x1, x3, x7 ⊗ x8) ∷ (x0 ⊗ x2 ⊗ x7, x1 ⊗ x8, x6) ∷ (x0, x2 ⊗ (x6 ⊗ x7), x4) ∷ (number (pos 1), x0 ⊗ x4, x5 ⊗ x3) ∷ [])
      (sym (ap pos q_is), (ap pos p_is, (ap pos whole, (b_is, tt)))) refl)

  total_is : (left_num a b +ℤ right_num a b) *ℤ pos times ≡ x +ℤ y
  total_is = add-*ℤ (left_num a b) (right_num a b) (pos times) ∙ ap₂ (λ (m n : ℤ). m +ℤ n) left_is right_is

  pub sum_fits_over : M < 2 ^ 127 → unsigned_abs x < 2 ^ 127 → unsigned_abs y < 2 ^ 127 → unsigned_abs (x +ℤ y) < 2 ^ 127 → SumFits a b
  sum_fits_over m h k l =
      let common = le_of_dvd hM divides in
      let left = le_multiple (left_num a b) x times times_some left_is in
      let right = le_multiple (right_num a b) y times times_some right_is in
      let total = le_multiple (left_num a b +ℤ right_num a b) (x +ℤ y) times times_some total_is in
      record { common = omega (arith, m, common); left = omega (arith, left, h); right = omega (arith, right, k); total = omega (arith, total, l) }

  pub sum_over : sum a b ≡ lowest (x +ℤ y) M
  sum_over =
      let l = left_num a b +ℤ right_num a b in
      sym (lowest_scaled l (common_den a b) times (mul-pos ha (quotient_pos a.den b.den hb)) times_some)
      ∙ ap₂ (λ (n : ℤ) (m : ℕ). lowest n m) total_is ((let c : common_den a b * times ≡ times * common_den a b = omega arith in c) ∙ whole)
