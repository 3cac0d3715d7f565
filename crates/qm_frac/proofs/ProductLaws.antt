-- Products with common divisors taken out crosswise.
use Rattle.std.proofs.Common.{◌≡◌, ℕ, suc, ◌*◌, ◌/◌, ◌^◌, ◌<◌, ℤ, pos, negsuc, ◌*ℤ◌, unsigned_abs, Bool, not, refl, sym, ap, ap₂, ◌∙◌, subst, arith}
use Rattle.std.specs.Int.{IsGcd}
use native.Mathlib.Nat.{div-mul_cancel, dvd-mul_right, mul-pos, eq_of_mul-eq-mul_right}
use Prim.Native.Nat.{◌∣◌}
use mathlib.Core.Bool.{beq}
use lib.Signed.{lt_z}
use Rattle.qm_math.specs.Fraction.{Fraction}
use Rattle.qm_frac.specs.Gcd.{gcd_of}
use Rattle.qm_frac.specs.Signs.{signed, is_below_zero}
use Rattle.qm_frac.specs.Lowest.{IsFrac, IsInRange, lowest_parts, lowest}
use Rattle.qm_frac.specs.Arithmetic.{product, inverse}
use Rattle.qm_frac.proofs.Divisors.{gcd_is, gcd_pos, IsCoprime, IsCoprime-quotients, IsCoprime-mul, IsCoprime-swap, IsCoprime-dvd, lowest_unique}
use Rattle.qm_frac.proofs.SignLaws.{unsigned_abs-signed, below_zero_is}
use Rattle.qm_frac.proofs.Terms.{quotient_pos, parts_are, fraction_is, neg_parts}

quotient_dvd : (n g : ℕ) → g ∣ n → n / g ∣ n
quotient_dvd n g h = subst (λ x. n / g ∣ x) (div-mul_cancel g h) (dvd-mul_right (n / g) g)

coprime_parts : (n d m e : ℕ) → IsCoprime n d → m ∣ n → e ∣ d → IsCoprime m e
coprime_parts n d m e co p q =
    IsCoprime-swap e m (IsCoprime-dvd d m e (IsCoprime-swap m d (IsCoprime-dvd n d m co p)) q)

crossed_same : (n' m' d' e' g h n m d e top bottom all : ℕ) → n' * g ≡ n → m' * h ≡ m → d' * h ≡ d → e' * g ≡ e → top * all ≡ n * m → bottom * all ≡ d * e
    → ((n' * m') * bottom) * all ≡ (top * (d' * e')) * all
crossed_same n' m' d' e' g h n m d e top bottom all n_is m_is d_is e_is top_is bottom_is =
    let left : (n' * m') * (bottom * all) ≡ (n' * m') * ((d' * h) * (e' * g)) = ap (λ x. (n' * m') * x) (bottom_is ∙ ap₂ (λ x y. x * y) (sym d_is) (sym e_is)) in
    let right : (d' * e') * (top * all) ≡ (d' * e') * ((n' * g) * (m' * h)) = ap (λ x. (d' * e') * x) (top_is ∙ ap₂ (λ x y. x * y) (sym n_is) (sym m_is)) in
    omega arith

-- the parts of a crosswise product are in lowest terms
pub crossed_coprime : (n d m e : ℕ) → gcd_of n d ≡ 1 → gcd_of m e ≡ 1 → 0 < d → 0 < e
    → IsCoprime ((n / gcd_of n e) * (m / gcd_of m d)) ((d / gcd_of m d) * (e / gcd_of n e))
crossed_coprime n d m e p q some more =
    let g = gcd_is n e in
    let h = gcd_is m d in
    let nd : IsCoprime n d = subst (λ x. IsGcd n d x) p (gcd_is n d) in
    let me : IsCoprime m e = subst (λ x. IsGcd m e x) q (gcd_is m e) in
    let nq : n / gcd_of n e ∣ n = quotient_dvd n (gcd_of n e) g.0 in
    let eq : e / gcd_of n e ∣ e = quotient_dvd e (gcd_of n e) g.1 in
    let mq : m / gcd_of m d ∣ m = quotient_dvd m (gcd_of m d) h.0 in
    let dq : d / gcd_of m d ∣ d = quotient_dvd d (gcd_of m d) h.1 in
    let n_e = IsCoprime-quotients n e (gcd_pos n e more) in
    let m_d = IsCoprime-quotients m d (gcd_pos m d some) in
    let n_d : IsCoprime (n / gcd_of n e) (d / gcd_of m d) = coprime_parts n d (n / gcd_of n e) (d / gcd_of m d) nd nq dq in
    let m_e : IsCoprime (m / gcd_of m d) (e / gcd_of n e) = coprime_parts m e (m / gcd_of m d) (e / gcd_of n e) me mq eq in
    let n_all = IsCoprime-mul (n / gcd_of n e) (d / gcd_of m d) (e / gcd_of n e) n_d n_e in
    let m_all = IsCoprime-mul (m / gcd_of m d) (d / gcd_of m d) (e / gcd_of n e) m_d m_e in
    IsCoprime-swap _ _ (IsCoprime-mul _ _ _ (IsCoprime-swap _ _ n_all) (IsCoprime-swap _ _ m_all))

-- they are the quotients of the products
pub crossed_are : (n d m e : ℕ) → gcd_of n d ≡ 1 → gcd_of m e ≡ 1 → 0 < d → 0 < e
    → ((n / gcd_of n e) * (m / gcd_of m d) ≡ (n * m) / gcd_of (n * m) (d * e)) × ((d / gcd_of m d) * (e / gcd_of n e) ≡ (d * e) / gcd_of (n * m) (d * e))
crossed_are n d m e p q some more =
    let g = gcd_of n e in
    let h = gcd_of m d in
    let all = gcd_of (n * m) (d * e) in
    let below : 0 < d * e = mul-pos some more in
    let whole = gcd_is (n * m) (d * e) in
    let n_is : n / g * g ≡ n = div-mul_cancel g (gcd_is n e).0 in
    let e_is : e / g * g ≡ e = div-mul_cancel g (gcd_is n e).1 in
    let m_is : m / h * h ≡ m = div-mul_cancel h (gcd_is m d).0 in
    let d_is : d / h * h ≡ d = div-mul_cancel h (gcd_is m d).1 in
    let top : (n * m) / all * all ≡ n * m = div-mul_cancel all whole.0 in
    let bottom : (d * e) / all * all ≡ d * e = div-mul_cancel all whole.1 in
    let dq : 0 < d / h = quotient_pos m d some in
    let eq : 0 < e / g = quotient_pos n e more in
    let cross : ((n / g) * (m / h)) * ((d * e) / all) ≡ ((n * m) / all) * ((d / h) * (e / g)) =
    eq_of_mul-eq-mul_right all (gcd_pos (n * m) (d * e) below) _ _ (crossed_same (n / g) (m / h) (d / h) (e / g) g h n m d e ((n * m) / all) ((d * e) / all) all n_is m_is d_is e_is top bottom) in
    lowest_unique _ _ _ _ (crossed_coprime n d m e p q some more) (IsCoprime-quotients (n * m) (d * e) (gcd_pos (n * m) (d * e) below))
    (mul-pos dq eq) (quotient_pos (n * m) (d * e) below) cross

product_signs : (x y : ℤ) (d : ℕ) → lowest_parts (not (beq (is_below_zero x) (is_below_zero y))) (unsigned_abs x * unsigned_abs y) d ≡ lowest (x *ℤ y) d
product_signs (pos a) (pos b) d = refl
product_signs (pos a) (negsuc b) d = neg_parts (a * suc b) d
product_signs (negsuc a) (pos b) d = neg_parts (suc a * b) d
product_signs (negsuc a) (negsuc b) d = refl

-- what the code makes of two fractions
pub product_is_lem : (a b : Fraction) → IsFrac a → IsFrac b → (n m d e num den : ℕ)
    → n ≡ unsigned_abs a.num / gcd_of (unsigned_abs a.num) b.den → e ≡ b.den / gcd_of (unsigned_abs a.num) b.den
    → m ≡ unsigned_abs b.num / gcd_of (unsigned_abs b.num) a.den → d ≡ a.den / gcd_of (unsigned_abs b.num) a.den
    → num ≡ n * m → den ≡ d * e
    → (record { num = signed (not (beq (lt_z a.num (pos 0)) (lt_z b.num (pos 0)))) num; den = den }) ≡ product a b
product_is_lem a b p q n m d e num den n_is e_is m_is d_is num_is den_is =
    let parts = crossed_are (unsigned_abs a.num) a.den (unsigned_abs b.num) b.den p.lowest q.lowest p.positive q.positive in
    let top = num_is ∙ ap₂ (λ x y. x * y) n_is m_is ∙ parts.0 in
    let bottom = den_is ∙ ap₂ (λ x y. x * y) d_is e_is ∙ parts.1 in
    rw (below_zero_is a.num, below_zero_is b.num)
    (parts_are (not (beq (is_below_zero a.num) (is_below_zero b.num))) _ _ num den top bottom ∙ product_signs a.num b.num (a.den * b.den))

pub parts_fit : (minus : Bool) (num den : ℕ) (r : Fraction) → (record { num = signed minus num; den = den }) ≡ r → IsInRange r → (num < 2 ^ 127) × (den < 2 ^ 127)
parts_fit minus num den r is h =
    let g : IsInRange (record { num = signed minus num; den = den }) = subst IsInRange (sym is) h in
    (rw (unsigned_abs-signed minus num) at g.num_fits, g.den_fits)

pub fits_from_parts : (minus : Bool) (num den : ℕ) (r : Fraction) → (record { num = signed minus num; den = den }) ≡ r → num < 2 ^ 127 → den < 2 ^ 127 → IsInRange r
fits_from_parts minus num den r is p q = subst IsInRange is (record { num_fits = rw (unsigned_abs-signed minus num) p; den_fits = q })

-- what the code makes of two fractions is a fraction
pub product_is_fraction : (a b : Fraction) → IsFrac a → IsFrac b → (n m d e num den : ℕ)
    → n ≡ unsigned_abs a.num / gcd_of (unsigned_abs a.num) b.den → e ≡ b.den / gcd_of (unsigned_abs a.num) b.den
    → m ≡ unsigned_abs b.num / gcd_of (unsigned_abs b.num) a.den → d ≡ a.den / gcd_of (unsigned_abs b.num) a.den
    → num ≡ n * m → den ≡ d * e → num < 2 ^ 127 → den < 2 ^ 127 → (minus : Bool)
    → IsFrac (record { num = signed minus num; den = den })
product_is_fraction a b p q n m d e num den n_is e_is m_is d_is num_is den_is num_fits den_fits minus =
    let co = crossed_coprime (unsigned_abs a.num) a.den (unsigned_abs b.num) b.den p.lowest q.lowest p.positive q.positive in
    let top = num_is ∙ ap₂ (λ x y. x * y) n_is m_is in
    let bottom = den_is ∙ ap₂ (λ x y. x * y) d_is e_is in
    let some = mul-pos (quotient_pos (unsigned_abs b.num) a.den p.positive) (quotient_pos (unsigned_abs a.num) b.den q.positive) in
    fraction_is minus num den (rw bottom some) (rw (top, bottom) co) num_fits den_fits

-- a number that isn't 0, turned round
pub IsFrac-inverse : (a : Fraction) → IsFrac a → 0 < unsigned_abs a.num → IsFrac (inverse a)
IsFrac-inverse a h some =
    let co : IsCoprime (unsigned_abs a.num) a.den = subst (λ x. IsGcd (unsigned_abs a.num) a.den x) h.lowest (gcd_is (unsigned_abs a.num) a.den) in
    fraction_is (is_below_zero a.num) a.den (unsigned_abs a.num) some (IsCoprime-swap _ _ co) h.den_fits h.num_fits
