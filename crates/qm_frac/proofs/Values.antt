-- The values of lowest terms, of a sum, of a product and of a quotient.
use Rattle.std.proofs.Common.{◌≡◌, ℕ, zero, suc, ◌*◌, ◌/◌, ℤ, pos, negsuc, ◌+ℤ◌, ◌*ℤ◌, neg_ℤ, refl, sym, ap, ap₂, ◌∙◌, arith}
use native.Mathlib.Nat.{div-mul_cancel, zero-mul}
use Rattle.qm_math.specs.Fraction.{Fraction, IsSame}
use Rattle.qm_math.specs.Arithmetic.{sum_of, product_of}
use Rattle.qm_math.proofs.Whole.{add-*ℤ, *ℤ_assoc}
use Rattle.qm_frac.specs.Gcd.{gcd_of}
use Rattle.qm_frac.specs.Lowest.{lowest_parts, lowest}
use Rattle.qm_frac.specs.Arithmetic.{sum, product, left_num, right_num, common_den}
use Rattle.qm_frac.proofs.Divisors.{gcd_is}

neg-mul : (m d : ℕ) → neg_ℤ (pos m) *ℤ pos d ≡ neg_ℤ (pos (m * d))
neg-mul zero d = let e : zero * d ≡ 0 = zero-mul d in ap pos e ∙ sym (ap (λ (x : ℕ). neg_ℤ (pos x)) e)
neg-mul (suc m) d = refl

-- what stands over the greatest common divisor
crosswise : (n d g n' d' : ℕ) → n' * g ≡ n → d' * g ≡ d → n' * d ≡ n * d'
crosswise n d g n' d' p q = ap (λ x. n' * x) (sym q) ∙ (let e : n' * (d' * g) ≡ n' * g * d' = omega arith in e) ∙ ap (λ x. x * d') p

pub lowest-value : (z : ℤ) (d : ℕ) → IsSame (lowest z d) (record { num = z; den = d })
unfolding lowest_parts
lowest-value (pos n) d =
    let g = gcd_is n d in
    ap pos (crosswise n d (gcd_of n d) (n / gcd_of n d) (d / gcd_of n d) (div-mul_cancel (gcd_of n d) g.0) (div-mul_cancel (gcd_of n d) g.1))
lowest-value (negsuc n) d =
    let m = suc n in
    let g = gcd_is m d in
    neg-mul (m / gcd_of m d) d ∙ ap (λ (x : ℕ). neg_ℤ (pos x)) (crosswise m d (gcd_of m d) (m / gcd_of m d) (d / gcd_of m d) (div-mul_cancel (gcd_of m d) g.0) (div-mul_cancel (gcd_of m d) g.1))

pub product-value : (a b : Fraction) → IsSame (product a b) (product_of a b)
unfolding product_of
product-value a b = lowest-value (a.num *ℤ b.num) (a.den * b.den)

pub sum-value : (a b : Fraction) → IsSame (sum a b) (sum_of a b)
unfolding sum_of
sum-value a b =
    let g = gcd_of a.den b.den in
    let is = gcd_is a.den b.den in
    let p = b.den / g in
    let q = a.den / g in
    let b_is : p * g ≡ b.den = div-mul_cancel g is.1 in
    let a_is : q * g ≡ a.den = div-mul_cancel g is.0 in
    let n = left_num a b +ℤ right_num a b in
    let r = sum a b in
    let whole : common_den a b * g ≡ a.den * b.den = (let e : a.den * p * g ≡ a.den * (p * g) = omega arith in e) ∙ ap (λ x. a.den * x) b_is in
    let scaled : n *ℤ pos g ≡ (a.num *ℤ pos b.den) +ℤ (b.num *ℤ pos a.den) =
    add-*ℤ (left_num a b) (right_num a b) (pos g)
    ∙ ap₂ (λ (x y : ℤ). x +ℤ y) (*ℤ_assoc a.num (pos p) (pos g) ∙ ap (λ (x : ℕ). a.num *ℤ pos x) b_is) (*ℤ_assoc b.num (pos q) (pos g) ∙ ap (λ (x : ℕ). b.num *ℤ pos x) a_is) in
    ap (λ (x : ℕ). r.num *ℤ pos x) (sym whole)
    ∙ sym (*ℤ_assoc r.num (pos (common_den a b)) (pos g))
    ∙ ap (λ (x : ℤ). x *ℤ pos g) (lowest-value n (common_den a b))
    ∙ *ℤ_assoc n (pos r.den) (pos g)
    ∙ ap (λ (x : ℕ). n *ℤ pos x) (let e : r.den * g ≡ g * r.den = omega arith in e)
    ∙ sym (*ℤ_assoc n (pos g) (pos r.den))
    ∙ ap (λ (x : ℤ). x *ℤ pos r.den) scaled
