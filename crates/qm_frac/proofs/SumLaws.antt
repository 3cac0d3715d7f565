-- What the code adds up is the sum.
use Rattle.std.proofs.Common.{◌≡◌, ℕ, suc, ◌*◌, ◌/◌, ◌^◌, ◌<◌, ℤ, pos, negsuc, ◌+ℤ◌, ◌*ℤ◌, neg_ℤ, unsigned_abs, refl, sym, ap, ap₂, ◌∙◌, subst, arith, lit<}
use Rattle.std.proofs.Math.Nat.{div_self, div-one}
use Rattle.std.proofs.Math.IntN.{zero-*ℤ}
use lib.IntN.{+ℤ_idl, +ℤ_idr}
use lib.Signed.{lt_z}
use Rattle.std.specs.Option.{SomeIff}
use Rattle.std.specs.Prelude.{Option, None, Some}
use Rattle.qm_math.specs.Fraction.{Fraction}
use Rattle.qm_frac.specs.Gcd.{gcd_of}
use Rattle.qm_frac.specs.Lowest.{IsFrac, IsInRange, lowest_parts, lowest}
use Rattle.qm_frac.specs.Arithmetic.{SumFits, sum, left_num, right_num, common_den}
use Rattle.qm_frac.proofs.SignLaws.{below_zero_is}
use Rattle.qm_frac.proofs.Divisors.{gcd_of-zero}
use Rattle.qm_frac.proofs.Halving.{gcd_of-swap, gcd_of-self, gcd_of-one}
use Rattle.qm_frac.proofs.Terms.{in_range_small, lowest_again, whole_is}

*ℤ_one : (z : ℤ) → z *ℤ pos 1 ≡ z
*ℤ_one (pos n) = ap pos (let e : n * 1 ≡ n = omega arith in e)
*ℤ_one (negsuc n) = ap (λ (m : ℕ). neg_ℤ (pos m)) (let e : suc n * 1 ≡ suc n = omega arith in e)

pub SomeIff-swap : {T : Type 0} (r : Option T) (P Q : Type 0) (v : T) → P → Q → SomeIff r P v → SomeIff r Q v
SomeIff-swap None P Q v p q h = absurd (h p)
SomeIff-swap (Some x) P Q v p q h = (q, h.1)

-- what the code passes on as the last step of a sum is the sum
pub total_is : (a b : Fraction) (left right num : ℤ) (left_part right_part common : ℕ)
    → left_part ≡ a.den / gcd_of a.den b.den → right_part ≡ b.den / gcd_of a.den b.den → common ≡ a.den * right_part
    → left ≡ a.num *ℤ pos right_part → right ≡ b.num *ℤ pos left_part → num ≡ left +ℤ right
    → common < 2 ^ 127 → unsigned_abs left < 2 ^ 127 → unsigned_abs right < 2 ^ 127 → unsigned_abs num < 2 ^ 127
    → (r : Option Fraction) → SomeIff r (IsInRange (lowest_parts (lt_z num (pos 0)) (unsigned_abs num) common)) (lowest_parts (lt_z num (pos 0)) (unsigned_abs num) common)
    → SomeIff r (SumFits a b) (sum a b)
total_is a b left right num left_part right_part common lp rp cm l r n c_fits l_fits r_fits n_fits result is =
    let lefts : left ≡ left_num a b = l ∙ ap (λ (x : ℕ). a.num *ℤ pos x) rp in
    let rights : right ≡ right_num a b = r ∙ ap (λ (x : ℕ). b.num *ℤ pos x) lp in
    let nums : num ≡ left_num a b +ℤ right_num a b = n ∙ ap₂ (λ (x y : ℤ). x +ℤ y) lefts rights in
    let commons : common ≡ common_den a b = cm ∙ ap (λ (x : ℕ). a.den * x) rp in
    let sums : lowest_parts (lt_z num (pos 0)) (unsigned_abs num) common ≡ sum a b =
    rw (below_zero_is num) (ap₂ (λ (x : ℤ) (y : ℕ). lowest x y) nums commons) in
    let fits : SumFits a b = record {
      common = subst (λ (x : ℕ). x < 2 ^ 127) commons c_fits;
      left = subst (λ (x : ℤ). unsigned_abs x < 2 ^ 127) lefts l_fits;
      right = subst (λ (x : ℤ). unsigned_abs x < 2 ^ 127) rights r_fits;
      total = subst (λ (x : ℤ). unsigned_abs x < 2 ^ 127) nums n_fits;
    } in
    let in_range : IsInRange (sum a b) = in_range_small (left_num a b +ℤ right_num a b) (common_den a b) fits.total fits.common in
    SomeIff-swap result (IsInRange (sum a b)) (SumFits a b) (sum a b) in_range fits (subst (λ (x : Fraction). SomeIff result (IsInRange x) x) sums is)

-- a fraction of the program with the value that the code made again
again : (b : Fraction) → IsFrac b → SomeIff (Some b) (IsInRange (lowest_parts (lt_z b.num (pos 0)) (unsigned_abs b.num) b.den)) (lowest_parts (lt_z b.num (pos 0)) (unsigned_abs b.num) b.den)
again b h =
    let same : lowest b.num b.den ≡ b = lowest_again b h in
    rw (below_zero_is b.num) (in_range_small b.num b.den h.num_fits h.den_fits, sym same)

-- ---- one denominator

same_den_part : (a b : Fraction) → a.den ≡ b.den → 0 < a.den → 1 ≡ a.den / gcd_of a.den b.den
same_den_part a b same some =
    let e : gcd_of a.den b.den ≡ a.den = ap (λ (x : ℕ). gcd_of a.den x) (sym same) ∙ gcd_of-self a.den in
    sym (ap (λ (x : ℕ). a.den / x) e ∙ div_self some)

same_den_other_part : (a b : Fraction) → a.den ≡ b.den → 0 < a.den → 1 ≡ b.den / gcd_of a.den b.den
same_den_other_part a b same some = same_den_part a b same some ∙ ap (λ (x : ℕ). x / gcd_of a.den b.den) same

-- the sum of the numerators is that of the numerators over the common denominator
same_den_num : (a b : Fraction) → a.den ≡ b.den → 0 < a.den → a.num +ℤ b.num ≡ left_num a b +ℤ right_num a b
same_den_num a b same some =
    ap₂ (λ (x y : ℤ). x +ℤ y) (sym (*ℤ_one a.num) ∙ ap (λ (x : ℕ). a.num *ℤ pos x) (same_den_other_part a b same some))
    (sym (*ℤ_one b.num) ∙ ap (λ (x : ℕ). b.num *ℤ pos x) (same_den_part a b same some))

pub same_den_fits : (a b : Fraction) → a.den ≡ b.den → 0 < a.den → SumFits a b → unsigned_abs (a.num +ℤ b.num) < 2 ^ 127
same_den_fits a b same some fits = rw (same_den_num a b same some) fits.total

pub same_den_total_is : (a b : Fraction) (num : ℤ) → IsFrac a → IsFrac b → a.den ≡ b.den → num ≡ a.num +ℤ b.num → unsigned_abs num < 2 ^ 127
    → (r : Option Fraction) → SomeIff r (IsInRange (lowest_parts (lt_z num (pos 0)) (unsigned_abs num) a.den)) (lowest_parts (lt_z num (pos 0)) (unsigned_abs num) a.den)
    → SomeIff r (SumFits a b) (sum a b)
same_den_total_is a b num a_is b_is same num_is fits r is =
    total_is a b a.num b.num num 1 1 a.den (same_den_part a b same a_is.positive) (same_den_other_part a b same a_is.positive) (let e : a.den ≡ a.den * 1 = omega arith in e)
    (sym (*ℤ_one a.num)) (sym (*ℤ_one b.num)) num_is a_is.den_fits a_is.num_fits b_is.num_fits fits r is

pub whole_total_is : (a b r : Fraction) (num : ℤ) → IsFrac a → IsFrac b → a.den ≡ b.den → a.den ≡ 1 → num ≡ a.num +ℤ b.num → unsigned_abs num < 2 ^ 127
    → r ≡ (record { num = num; den = 1 }) → SomeIff (Some r) (SumFits a b) (sum a b)
whole_total_is a b r num a_is b_is same one num_is fits r_is =
    let over : ℕ → Fraction = λ (x : ℕ). record { num = num; den = x } in
    let is : IsFrac (over a.den) = subst (λ (x : ℕ). IsFrac (over x)) (sym one) (whole_is num fits) in
    let same_r : r ≡ over a.den = r_is ∙ ap over (sym one) in
    subst (λ (x : Fraction). SomeIff (Some x) (SumFits a b) (sum a b)) (sym same_r)
    (same_den_total_is a b num a_is b_is same num_is fits (Some (over a.den)) (again (over a.den) is))

-- ---- a sum with 0

-- 0 in lowest terms has the denominator 1
zero_den : (a : Fraction) → IsFrac a → a.num ≡ pos 0 → a.den ≡ 1
zero_den a h zero = sym (gcd_of-zero a.den 0 refl) ∙ gcd_of-swap a.den 0 ∙ ap (λ (x : ℤ). gcd_of (unsigned_abs x) a.den) (sym zero) ∙ h.lowest

pub zero_plus : (a b : Fraction) → IsFrac a → IsFrac b → a.num ≡ pos 0 → SomeIff (Some b) (SumFits a b) (sum a b)
zero_plus a b a_is b_is zero =
    let one : a.den ≡ 1 = zero_den a a_is zero in
    let g : gcd_of a.den b.den ≡ 1 = ap (λ (x : ℕ). gcd_of x b.den) one ∙ gcd_of-one b.den in
    let lp : 1 ≡ a.den / gcd_of a.den b.den = sym (ap₂ (λ (x y : ℕ). x / y) one g) in
    let rp : b.den ≡ b.den / gcd_of a.den b.den = sym (ap (λ (x : ℕ). b.den / x) g ∙ div-one b.den) in
    let cm : b.den ≡ a.den * b.den = (let e : b.den ≡ 1 * b.den = omega arith in e) ∙ sym (ap (λ (x : ℕ). x * b.den) one) in
    let l : pos 0 ≡ a.num *ℤ pos b.den = sym (ap (λ (x : ℤ). x *ℤ pos b.den) zero ∙ zero-*ℤ (pos b.den)) in
    total_is a b (pos 0) b.num b.num 1 b.den b.den lp rp cm l (sym (*ℤ_one b.num)) (sym (+ℤ_idl b.num)) b_is.den_fits (lit< tt) b_is.num_fits b_is.num_fits (Some b) (again b b_is)

pub plus_zero : (a b : Fraction) → IsFrac a → IsFrac b → b.num ≡ pos 0 → SomeIff (Some a) (SumFits a b) (sum a b)
plus_zero a b a_is b_is zero =
    let one : b.den ≡ 1 = zero_den b b_is zero in
    let g : gcd_of a.den b.den ≡ 1 = gcd_of-swap a.den b.den ∙ ap (λ (x : ℕ). gcd_of x a.den) one ∙ gcd_of-one a.den in
    let lp : a.den ≡ a.den / gcd_of a.den b.den = sym (ap (λ (x : ℕ). a.den / x) g ∙ div-one a.den) in
    let rp : 1 ≡ b.den / gcd_of a.den b.den = sym (ap₂ (λ (x y : ℕ). x / y) one g) in
    let cm : a.den ≡ a.den * 1 = omega arith in
    let r : pos 0 ≡ b.num *ℤ pos a.den = sym (ap (λ (x : ℤ). x *ℤ pos a.den) zero ∙ zero-*ℤ (pos a.den)) in
    total_is a b a.num (pos 0) a.num a.den 1 a.den lp rp cm (sym (*ℤ_one a.num)) r (sym (+ℤ_idr a.num)) a_is.den_fits a_is.num_fits (lit< tt) a_is.num_fits (Some a) (again a a_is)
