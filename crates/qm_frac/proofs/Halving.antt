-- Factors 2 and the greatest common divisor.
use Rattle.std.proofs.Common.{◌≡◌, ℕ, zero, suc, ◌+◌, ◌-◌, ◌*◌, ◌/◌, ◌%◌, ◌^◌, ◌<◌, ◌≤◌, min, refl, sym, ap, ◌∙◌, subst, arith, ◌⊎◌, ⊎_elim, mod-eq_of_lt}
use Rattle.std.specs.Int.{IsGcd, abs_diff}
use Rattle.std.proofs.lemmas.Nat.Gcd.{IsGcd-swap, IsGcd-from_sub}
use Rattle.std.proofs.lemmas.Nat.{pow-add, pow_pos, shr-shr, div-add-mod'}
use Rattle.std.proofs.Math.Nat.{one-dvd, dvd-mul_left_of_dvd, pow-suc, div-one}
use Rattle.std.proofs.lemmas.Bool.{cases_lt}
use Rattle.std.proofs.lemmas.Nat.Gcd.{le_of_dvd, dvd_refl}
use Rattle.qm_frac.specs.Gcd.{gcd_of, gcd_within}
use Rattle.qm_frac.proofs.Divisors.{gcd_is, gcd_from_IsGcd, gcd_of-mod, IsGcd-mul, IsCoprime, IsCoprime-dvd, coprime_dvd}

pub gcd_of-swap : (a b : ℕ) → gcd_of a b ≡ gcd_of b a
gcd_of-swap a b = gcd_from_IsGcd a b _ (IsGcd-swap b a _ (gcd_is b a))

pub gcd_of-self : (a : ℕ) → gcd_of a a ≡ a
gcd_of-self a = gcd_from_IsGcd a a a (dvd_refl a, dvd_refl a, λ d p q. p)

pub gcd_of-one : (d : ℕ) → gcd_of 1 d ≡ 1
gcd_of-one d = gcd_from_IsGcd 1 d 1 (one-dvd 1, one-dvd d, λ e p q. p)

pub gcd_of-either_one : (n d : ℕ) → (n ≡ 1) ⊎ (d ≡ 1) → gcd_of n d ≡ 1
gcd_of-either_one n d h =
    ⊎_elim (λ (e : n ≡ 1). ap (λ x. gcd_of x d) e ∙ gcd_of-one d)
    (λ (e : d ≡ 1). gcd_of-swap n d ∙ ap (λ x. gcd_of x n) e ∙ gcd_of-one n) h

-- one step by a difference
gcd_of-sub : (a b : ℕ) → b ≤ a → gcd_of (a - b) b ≡ gcd_of a b
gcd_of-sub a b h = sym (gcd_from_IsGcd a b _ (IsGcd-from_sub a b _ h (gcd_is (a - b) b)))

two_and_one : gcd_of 2 1 ≡ 1
unfolding gcd_of gcd_within
two_and_one = refl

-- an odd number has no divisor in common with 2
coprime_two : (y : ℕ) → y % 2 ≡ 1 → IsCoprime y 2
coprime_two y odd =
    let one : gcd_of y 2 ≡ 1 = sym (gcd_of-mod y 2) ∙ ap (λ r. gcd_of 2 r) odd ∙ two_and_one in
    subst (λ x. IsGcd y 2 x) one (gcd_is y 2)

gcd_of-twice : (a y : ℕ) → y % 2 ≡ 1 → gcd_of (2 * a) y ≡ gcd_of a y
gcd_of-twice a y odd =
    let g = gcd_is a y in
    gcd_from_IsGcd (2 * a) y (gcd_of a y)
    (dvd-mul_left_of_dvd (gcd_of a y) g.0 2, g.1, λ d p q. g.2 d (coprime_dvd d 2 a (IsCoprime-dvd y 2 d (coprime_two y odd) q) p) q)

-- factors 2 have nothing in common with an odd number
pub gcd_of-twos : (k a y : ℕ) → y % 2 ≡ 1 → gcd_of (a * 2 ^ k) y ≡ gcd_of a y
gcd_of-twos zero a y odd = ap (λ x. gcd_of x y) (let e : a * 1 ≡ a = omega arith in e)
gcd_of-twos (suc k) a y odd =
    let e : a * 2 ^ suc k ≡ 2 * (a * 2 ^ k) = ap (λ x. a * x) (pow-suc 2 k) ∙ (let f : a * (2 ^ k * 2) ≡ 2 * (a * 2 ^ k) = omega arith in f) in
    ap (λ x. gcd_of x y) e ∙ gcd_of-twice (a * 2 ^ k) y odd ∙ gcd_of-twos k a y odd

by_greater : (x y p k : ℕ) → y % 2 ≡ 1 → y ≤ x → p * 2 ^ k ≡ x - y → gcd_of y p ≡ gcd_of x y
by_greater x y p k odd h part =
    gcd_of-swap y p ∙ sym (gcd_of-twos k p y odd) ∙ ap (λ z. gcd_of z y) part ∙ gcd_of-sub x y h

pub min_odd : (x y : ℕ) → x % 2 ≡ 1 → y % 2 ≡ 1 → min x y % 2 ≡ 1
min_odd x y x_odd y_odd =
    ⊎_elim
    (λ (h : x < y). let e : min x y ≡ x = omega arith in rw e x_odd)
    (λ (h : y ≤ x). let e : min x y ≡ y = omega arith in rw e y_odd) (cases_lt x y)

-- one step by the odd part p of a difference
pub odd_step : (x y p k : ℕ) → x % 2 ≡ 1 → y % 2 ≡ 1 → p * 2 ^ k ≡ abs_diff x y → gcd_of (min x y) p ≡ gcd_of x y
odd_step x y p k x_odd y_odd part =
    ⊎_elim
    (λ (h : x < y).
    let least : min x y ≡ x = omega arith in
    let apart : p * 2 ^ k ≡ y - x = omega arith in
    ap (λ z. gcd_of z p) least ∙ by_greater y x p k x_odd (omega arith) apart ∙ gcd_of-swap y x)
    (λ (h : y ≤ x).
    let least : min x y ≡ y = omega arith in
    let apart : p * 2 ^ k ≡ x - y = omega arith in
    ap (λ z. gcd_of z p) least ∙ by_greater x y p k y_odd h apart) (cases_lt x y)

shared_twos_le : (p q i k : ℕ) → p % 2 ≡ 1 → gcd_of (p * 2 ^ i) (q * 2 ^ (i + k)) ≡ gcd_of p q * 2 ^ i
shared_twos_le p q i k odd =
    let one : gcd_of p (q * 2 ^ k) ≡ gcd_of p q = gcd_of-swap p (q * 2 ^ k) ∙ gcd_of-twos k q p odd ∙ gcd_of-swap q p in
    let scaled : IsGcd (2 ^ i * p) (2 ^ i * (q * 2 ^ k)) (2 ^ i * gcd_of p (q * 2 ^ k)) = IsGcd-mul (2 ^ i) p (q * 2 ^ k) _ (pow_pos i) (gcd_is p (q * 2 ^ k)) in
    let left : 2 ^ i * p ≡ p * 2 ^ i = omega arith in
    let right : 2 ^ i * (q * 2 ^ k) ≡ q * 2 ^ (i + k) = (let e : 2 ^ i * (q * 2 ^ k) ≡ q * (2 ^ i * 2 ^ k) = omega arith in e) ∙ ap (λ x. q * x) (sym (pow-add 2 i k)) in
    let all : IsGcd (p * 2 ^ i) (q * 2 ^ (i + k)) (2 ^ i * gcd_of p (q * 2 ^ k)) = rw (left, right) at scaled in
    gcd_from_IsGcd _ _ _ all ∙ ap (λ x. 2 ^ i * x) one ∙ (let e : 2 ^ i * gcd_of p q ≡ gcd_of p q * 2 ^ i = omega arith in e)

-- odd parts times powers of 2
pub shared_twos : (p q i j : ℕ) → p % 2 ≡ 1 → q % 2 ≡ 1 → gcd_of (p * 2 ^ i) (q * 2 ^ j) ≡ gcd_of p q * 2 ^ min i j
shared_twos p q i j p_odd q_odd =
    ⊎_elim
    (λ (h : i < j).
    let least : min i j ≡ i = omega arith in
    let whole : i + (j - i) ≡ j = omega arith in
    let e : gcd_of (p * 2 ^ i) (q * 2 ^ j) ≡ gcd_of p q * 2 ^ i = rw whole at (shared_twos_le p q i (j - i) p_odd) in
    e ∙ ap (λ m. gcd_of p q * 2 ^ m) (sym least))
    (λ (h : j ≤ i).
    let least : min i j ≡ j = omega arith in
    let whole : j + (i - j) ≡ i = omega arith in
    let e : gcd_of (q * 2 ^ j) (p * 2 ^ i) ≡ gcd_of q p * 2 ^ j = rw whole at (shared_twos_le q p j (i - j) q_odd) in
    gcd_of-swap _ _ ∙ e ∙ ap (λ g. g * 2 ^ j) (gcd_of-swap q p) ∙ ap (λ m. gcd_of p q * 2 ^ m) (sym least)) (cases_lt i j)

-- a number whose k lowest bits are 0
pub low_zeros : (k n : ℕ) → ((i : ℕ) → i < k → n / 2 ^ i % 2 ≡ 0) → n / 2 ^ k * 2 ^ k ≡ n
low_zeros zero n h = let e : n / 1 ≡ n = div-one n in omega arith
low_zeros (suc k) n h =
    let before : n / 2 ^ k * 2 ^ k ≡ n = low_zeros k n (λ i l. h i (omega arith)) in
    let bit : n / 2 ^ k % 2 ≡ 0 = h k (omega arith) in
    let halves : n / 2 ^ k / 2 * 2 + n / 2 ^ k % 2 ≡ n / 2 ^ k = div-add-mod' (n / 2 ^ k) 2 in
    let half : n / 2 ^ k / 2 ≡ n / 2 ^ suc k = shr-shr n k 1 ∙ ap (λ m. n / 2 ^ m) (let e : k + 1 ≡ suc k = omega arith in e) in
    let power : 2 ^ suc k ≡ 2 ^ k * 2 = pow-suc 2 k in
    let back : n / 2 ^ suc k * 2 ≡ n / 2 ^ k = ap (λ x. x * 2) (sym half) ∙ omega arith in
    ap (λ x. n / 2 ^ suc k * x) power ∙ (let e : n / 2 ^ suc k * (2 ^ k * 2) ≡ n / 2 ^ suc k * 2 * 2 ^ k = omega arith in e) ∙ ap (λ x. x * 2 ^ k) back ∙ before

-- the greatest common divisor as it is shifted back in w bits
pub shifted_back : (w a b p q i j m : ℕ) → 0 < a → a < 2 ^ w → p % 2 ≡ 1 → q % 2 ≡ 1 → p * 2 ^ i ≡ a → q * 2 ^ j ≡ b → m ≡ min i j
    → gcd_of p q * 2 ^ m % 2 ^ w ≡ gcd_of a b
shifted_back w a b p q i j m some fits p_odd q_odd a_is b_is m_is =
    let same : gcd_of p q * 2 ^ m ≡ gcd_of a b =
    ap (λ x. gcd_of p q * 2 ^ x) m_is ∙ sym (shared_twos p q i j p_odd q_odd) ∙ ap (λ x. gcd_of x (q * 2 ^ j)) a_is ∙ ap (λ x. gcd_of a x) b_is in
    let small : gcd_of a b ≤ a = le_of_dvd some (gcd_is a b).0 in
    ap (λ x. x % 2 ^ w) same ∙ mod-eq_of_lt (let l : gcd_of a b < 2 ^ w = omega arith in l)
