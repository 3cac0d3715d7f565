-- The order of two products, from their halves.
use Rattle.std.proofs.Common.{◌≡◌, ℕ, ◌+◌, ◌*◌, ◌<◌, ◌≤◌, sym, ap, ◌∙◌, arith, ⊎_elim, nat_cmp, Less, Equal, Greater}
use Rattle.std.proofs.lemmas.Bool.{cases_order}
use Rattle.std.proofs.lemmas.Bool.Decides.{nat_tests}
use native.Mathlib.Nat.{mul-le-mul_right}

pub is_less : (x y : ℕ) → x < y → nat_cmp x y ≡ Less
is_less x y h = grind (arith, nat_tests)

pub is_equal : (x y : ℕ) → x ≡ y → nat_cmp x y ≡ Equal
is_equal x y h = grind (arith, nat_tests)

pub is_greater : (x y : ℕ) → y < x → nat_cmp x y ≡ Greater
is_greater x y h = grind (arith, nat_tests)

pub less_is : (x y : ℕ) → nat_cmp x y ≡ Less → x < y
less_is x y h = ⊎_elim (λ e. let f = is_equal x y e in cc) (⊎_elim (λ l. l) (λ g. let f = is_greater x y g in cc)) (cases_order x y)

pub greater_is : (x y : ℕ) → nat_cmp x y ≡ Greater → y < x
greater_is x y h = ⊎_elim (λ e. let f = is_equal x y e in cc) (⊎_elim (λ l. let f = is_less x y l in cc) (λ g. g)) (cases_order x y)

pub equal_is : (x y : ℕ) → nat_cmp x y ≡ Equal → x ≡ y
equal_is x y h = ⊎_elim (λ e. e) (⊎_elim (λ l. let f = is_less x y l in cc) (λ g. let f = is_greater x y g in cc)) (cases_order x y)

-- two pairs in one order
pub same_order : (x y u v : ℕ) → (x < y → u < v) → (x ≡ y → u ≡ v) → (y < x → v < u) → nat_cmp x y ≡ nat_cmp u v
same_order x y u v l e g =
    ⊎_elim (λ h. is_equal x y h ∙ sym (is_equal u v (e h)))
    (⊎_elim (λ h. is_less x y h ∙ sym (is_less u v (l h))) (λ h. is_greater x y h ∙ sym (is_greater u v (g h)))) (cases_order x y)

-- the greater high half decides
pub high_decides : (base low high low' high' x y : ℕ) → low < base → low + high * base ≡ x → low' + high' * base ≡ y → high < high' → x < y
high_decides base low high low' high' x y small e e' h =
    let next : (high + 1) * base ≤ high' * base = mul-le-mul_right base (let k : high + 1 ≤ high' = omega arith in k) in
    let split : (high + 1) * base ≡ high * base + base = omega arith in
    omega arith

-- with one high half, the low halves decide
pub low_decides : (base low high low' high' x y : ℕ) → low + high * base ≡ x → low' + high' * base ≡ y → high ≡ high' → nat_cmp low low' ≡ nat_cmp x y
low_decides base low high low' high' x y e e' h =
    let same : high * base ≡ high' * base = ap (λ k. k * base) h in
    same_order low low' x y (λ l. omega arith) (λ l. omega arith) (λ l. omega arith)
