-- A product with 0 takes nothing away.
use Rattle.std.proofs.Common.{◌≡◌, ◌∙◌, refl, sym, ap, ap₂, ℕ, ◌*◌, ◌/◌, ◌%◌, ◌<◌, ℤ, pos, ◌*ℤ◌, Ok, arith}
use native.Mathlib.Nat.{zero-div, mul-pos, div_self}
use lib.IntN.{*ℤ_comm}
use Rattle.std.proofs.lemmas.Int.{ints}
use Rattle.qm_math.specs.Fraction.{Fraction, whole}
use Rattle.qm_frac.specs.Gcd.{gcd_of}
use Rattle.qm_frac.specs.Lowest.{IsFrac, lowest, lowest_parts}
use Rattle.qm_frac.specs.Arithmetic.{product}
use Rattle.qm_frac.specs.Checked.{multiplied, subtracted}
use Rattle.qm_frac.proofs.Divisors.{gcd_of-mod, gcd_of-zero}
use Rattle.qm_frac.proofs.Terms.{whole_is}
use Rattle.qm_frac.proofs.SumLaws.{plus_zero}
use Rattle.qm_frac.proofs.AnswerLaws.{multiplied_fits, subtracted_fits}
use Rattle.qm_tableau.specs.Pivoting.{less_multiple}

-- 0 in lowest terms
lowest_zero : (d : ℕ) → 0 < d → whole (pos 0) ≡ lowest (pos 0) d
unfolding lowest_parts
lowest_zero d some =
    let g : gcd_of 0 d ≡ d = sym (gcd_of-mod 0 d) ∙ gcd_of-zero d (0 % d) (omega arith) in
    let pair : ℕ → ℕ → Fraction = λ x y. record { num = pos x; den = y } in
    let n : 0 ≡ 0 / gcd_of 0 d = sym (zero-div (gcd_of 0 d)) in
    let one : 1 ≡ d / d = sym (div_self some) in
    ap₂ pair n (one ∙ sym (ap (λ (x : ℕ). d / x) g))

-- a product with 0
pub product_zero : (a b : Fraction) → IsFrac a → IsFrac b → a.num *ℤ b.num ≡ pos 0 → multiplied a b ≡ Ok (whole (pos 0))
product_zero a b a_is b_is none =
    let is : whole (pos 0) ≡ product a b = lowest_zero (a.den * b.den) (mul-pos a_is.positive b_is.positive) ∙ sym (ap (λ (z : ℤ). lowest z (a.den * b.den)) none) in
    sym (multiplied_fits a b (whole (pos 0)) (rw (sym is) (record { num_fits = omega arith; den_fits = omega arith })) is)

-- a difference with 0
pub difference_zero : (a : Fraction) → IsFrac a → subtracted a (whole (pos 0)) ≡ Ok a
difference_zero a a_is =
    let fits = plus_zero a (whole (pos 0)) a_is (whole_is (pos 0) (omega arith)) refl in
    sym (subtracted_fits a (whole (pos 0)) a fits.0 fits.1)

pub less_zero : (t f o : Fraction) → IsFrac t → IsFrac f → IsFrac o → f.num *ℤ o.num ≡ pos 0 → less_multiple t f o ≡ Ok t
less_zero t f o t_is f_is o_is none = rw (product_zero f o f_is o_is none) (difference_zero t t_is)

pub zero_left : (a b : ℤ) → a ≡ pos 0 → a *ℤ b ≡ pos 0
zero_left a b e = rw e (omega (arith, ints))

pub zero_right : (a b : ℤ) → b ≡ pos 0 → a *ℤ b ≡ pos 0
zero_right a b e = *ℤ_comm a b ∙ zero_left b a e
