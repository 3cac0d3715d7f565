-- Laws of the greatest common divisor, and of numbers with no common divisor.
use Rattle.std.proofs.Common.{◌≡◌, ℕ, zero, suc, ◌+◌, ◌*◌, ◌/◌, ◌%◌, ◌<◌, ◌≤◌, refl, sym, ap, ◌∙◌, subst, arith}
use Rattle.std.specs.Int.{IsGcd}
use Rattle.std.proofs.lemmas.Nat.Gcd.{IsGcd-from_zero, IsGcd-from_mod, IsGcd-swap, same_from_IsGcd, dvd-zero, dvd_trans, dvd_antisymm}
use Rattle.std.proofs.lemmas.Nat.{mod-mul-add, div-add-mod', mod_below}
use native.Mathlib.Nat.{dvd-mul_left, mul-div_cancel', dvd_of_mul-dvd-mul_left, mul-dvd-mul_left, mul_comm, mul-lt-mul_of_pos_left, eq_of_mul-eq-mul_right, pos_of_dvd_of_pos, one-dvd}
use Prim.Native.Nat.{◌∣◌}
use Rattle.qm_frac.specs.Gcd.{gcd_within, gcd_of}

-- two numbers with no common divisor but 1
abbrev pub IsCoprime : ℕ → ℕ → Type 0
IsCoprime a b = IsGcd a b 1

pub gcd_within_is : (n a b : ℕ) → b ≤ n → IsGcd a b (gcd_within n a b)
unfolding gcd_within
gcd_within_is zero a b h = IsGcd-from_zero a b (omega arith)
gcd_within_is (suc n) a zero h = IsGcd-from_zero a 0 refl
gcd_within_is (suc n) a (suc b) h =
    let small : a % suc b < suc b = mod_below a (suc b) (omega arith) in
    IsGcd-from_mod a (suc b) _ (gcd_within_is n (suc b) (a % suc b) (omega arith))

-- (k * a) % (k * b)
pub mul-mod : (k a b : ℕ) → 0 < k → 0 < b → (k * a) % (k * b) ≡ k * (a % b)
mul-mod k a b some large =
    let small : a % b < b = mod_below a b large in
    let whole : a / b * b + a % b ≡ a = div-add-mod' a b in
    let scaled : k * a ≡ (a / b) * (k * b) + k * (a % b) = ap (λ x. k * x) (sym whole) ∙ omega arith in
    let below : k * (a % b) < k * b = mul-lt-mul_of_pos_left small some in
    ap (λ x. x % (k * b)) scaled ∙ mod-mul-add (a / b) (k * b) (k * (a % b)) below

pub gcd_within-mul : (k n a b : ℕ) → 0 < k → b ≤ n → IsGcd (k * a) (k * b) (k * gcd_within n a b)
unfolding gcd_within
gcd_within-mul k zero a b some h = IsGcd-from_zero (k * a) (k * b) (let e : b ≡ 0 = omega arith in ap (λ x. k * x) e ∙ omega arith)
gcd_within-mul k (suc n) a zero some h = IsGcd-from_zero (k * a) (k * 0) (omega arith)
gcd_within-mul k (suc n) a (suc b) some h =
    let small : a % suc b < suc b = mod_below a (suc b) (omega arith) in
    IsGcd-from_mod (k * a) (k * suc b) _ (rw (mul-mod k a (suc b) some (omega arith)) (gcd_within-mul k n (suc b) (a % suc b) some (omega arith)))

pub gcd_is : (a b : ℕ) → IsGcd a b (gcd_of a b)
unfolding gcd_of
gcd_is a b = gcd_within_is b a b (omega arith)

pub gcd_from_IsGcd : (a b g : ℕ) → IsGcd a b g → gcd_of a b ≡ g
gcd_from_IsGcd a b g h = same_from_IsGcd a b (gcd_of a b) g (gcd_is a b) h

-- one step by a remainder
pub gcd_of-mod : (a b : ℕ) → gcd_of b (a % b) ≡ gcd_of a b
gcd_of-mod a b = sym (gcd_from_IsGcd a b _ (IsGcd-from_mod a b _ (gcd_is b (a % b))))

pub gcd_of-zero : (a b : ℕ) → b ≡ 0 → gcd_of a b ≡ a
gcd_of-zero a b e = gcd_from_IsGcd a b a (IsGcd-from_zero a b e)

pub IsGcd-mul : (k a b g : ℕ) → 0 < k → IsGcd a b g → IsGcd (k * a) (k * b) (k * g)
IsGcd-mul k a b g some h =
    let e : gcd_within b a b ≡ g = same_from_IsGcd a b _ _ (gcd_within_is b a b (omega arith)) h in
    subst (λ x. IsGcd (k * a) (k * b) (k * x)) e (gcd_within-mul k b a b some (omega arith))

-- Gauss's lemma
pub coprime_dvd : (a b c : ℕ) → IsCoprime a b → a ∣ b * c → a ∣ c
coprime_dvd a b zero co d = dvd-zero a
coprime_dvd a b (suc c) co d =
    let k = suc c in
    let g : IsGcd (k * a) (k * b) (k * 1) = IsGcd-mul k a b 1 (omega arith) co in
    let one : k * 1 ≡ k = omega arith in
    subst (λ x. a ∣ x) one (g.2 a (dvd-mul_left a k) (subst (λ x. a ∣ x) (mul_comm b k) d))

pub IsCoprime-swap : (a b : ℕ) → IsCoprime a b → IsCoprime b a
IsCoprime-swap a b h = IsGcd-swap a b 1 h

-- what divides a number is coprime where the number is
pub IsCoprime-dvd : (a b d : ℕ) → IsCoprime a b → d ∣ a → IsCoprime d b
IsCoprime-dvd a b d co h = (one-dvd d, one-dvd b, λ e p q. co.2 e (dvd_trans e p h) q)

pub IsCoprime-mul : (a b c : ℕ) → IsCoprime a b → IsCoprime a c → IsCoprime a (b * c)
IsCoprime-mul a b c p q = (one-dvd a, one-dvd (b * c), λ d da dbc. q.2 d da (coprime_dvd d b c (IsCoprime-dvd a b d p da) dbc))

-- the quotients by the greatest common divisor
pub IsCoprime-quotients : (a b : ℕ) → 0 < gcd_of a b → IsCoprime (a / gcd_of a b) (b / gcd_of a b)
IsCoprime-quotients a b some =
    let g = gcd_of a b in
    let h = gcd_is a b in (
      one-dvd _,
      one-dvd _,
      λ d p q.
          let pa : g * d ∣ a = subst (λ x. g * d ∣ x) (mul-div_cancel' g h.0) (mul-dvd-mul_left d g p) in
          let pb : g * d ∣ b = subst (λ x. g * d ∣ x) (mul-div_cancel' g h.1) (mul-dvd-mul_left d g q) in
          let back : g * d ∣ g * 1 = subst (λ x. g * d ∣ x) (omega arith) (h.2 (g * d) pa pb) in
          dvd_of_mul-dvd-mul_left d some back,
    )

pub gcd_pos : (a b : ℕ) → 0 < b → 0 < gcd_of a b
gcd_pos a b some = pos_of_dvd_of_pos (gcd_is a b).1 some

-- lowest terms are unique
pub lowest_unique : (n d m e : ℕ) → IsCoprime n d → IsCoprime m e → 0 < d → 0 < e → n * e ≡ m * d → (n ≡ m) × (d ≡ e)
lowest_unique n d m e p q some more same =
    let de : d ∣ e = coprime_dvd d n e (IsCoprime-swap n d p) (subst (λ x. d ∣ x) (sym same) (dvd-mul_left d m)) in
    let ed : e ∣ d = coprime_dvd e m d (IsCoprime-swap m e q) (subst (λ x. e ∣ x) same (dvd-mul_left e n)) in
    let eq : d ≡ e = dvd_antisymm de ed in
    (eq_of_mul-eq-mul_right d some n m (subst (λ x. n * x ≡ m * d) (sym eq) same), eq)

pub gcd_of-one : (n : ℕ) → gcd_of n 1 ≡ 1
unfolding gcd_of gcd_within
gcd_of-one n = refl
