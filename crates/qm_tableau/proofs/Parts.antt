-- Numbers without a divisor, and divisors that numbers have in common.
use Rattle.std.proofs.Common.{◌≡◌, ◌∙◌, refl, sym, ap, ap₂, ℕ, zero, suc, ◌+◌, ◌*◌, ◌/◌, ◌%◌, ◌≤◌, ◌<◌, ◌^◌, ℤ, pos, neg_ℤ, ◌*ℤ◌, ◌<ℤ◌, unsigned_abs, Bool, true, false, arith, to_z, mul-pos, List, length, set}
use borrow.Author.Count.{below_more}
use lib.Signed.{lt_z}
use native.Mathlib.Nat.{div-mul_cancel, pos_of_dvd_of_pos}
use Prim.Native.Nat.{◌∣◌}
use Rattle.std.specs.Int.{w128}
use Rattle.std.proofs.lemmas.Int.{ints, to_z_pos, unsigned_abs-mul}
use Rattle.std.proofs.lemmas.List.{get_or-set_same, get_or-set_other}
use Rattle.std.proofs.lemmas.Nat.{mod_below}
use Rattle.std.proofs.lemmas.Nat.Gcd.{dvd_trans, le_of_dvd}
use Rattle.qm_frac.specs.Gcd.{gcd_of}
use Rattle.qm_frac.specs.Signs.{signed}
use Rattle.qm_frac.proofs.Divisors.{gcd_is, gcd_pos, gcd_of-mod, gcd_of-zero}
use Rattle.qm_frac.proofs.Halving.{gcd_of-swap}
use Rattle.qm_frac.proofs.SignLaws.{below_zero_is, signed_abs, unsigned_abs-signed}
use Rattle.qm_tableau.specs.Wholes.{IsSmall, at_place}
use Rattle.qm_tableau.specs.UpdateSteps.{HasParts}

-- ---- one number without a divisor

neg_times : (n m d : ℕ) → n * d ≡ m → neg_ℤ (pos n) *ℤ pos d ≡ neg_ℤ (pos m)
neg_times zero zero d h = ap pos (let e : zero * d ≡ 0 = omega arith in e)
neg_times zero (suc m) d h = absurd (let e : zero * d ≡ 0 = omega arith in omega (arith, h, e))
neg_times (suc n) m d h = ap (λ (x : ℕ). neg_ℤ (pos x)) h

signed_times : (minus : Bool) (n d : ℕ) → signed minus n *ℤ pos d ≡ signed minus (n * d)
signed_times false n d = refl
signed_times true n d = neg_times n (n * d) d refl

pub part_is : (n q : ℤ) (d size : ℕ) → q ≡ signed (lt_z n (pos 0)) size → size ≡ unsigned_abs n / d → d ∣ unsigned_abs n → q *ℤ pos d ≡ n
part_is n q d size is size_is divides =
    ap (λ (x : ℤ). x *ℤ pos d) is ∙ signed_times (lt_z n (pos 0)) size d
    ∙ ap (λ (x : ℕ). signed (lt_z n (pos 0)) x) (ap (λ (x : ℕ). x * d) size_is ∙ div-mul_cancel d divides)
    ∙ ap (λ (b : Bool). signed b (unsigned_abs n)) (below_zero_is n) ∙ signed_abs n

pub part_small : (q : ℤ) (minus : Bool) (size : ℕ) → q ≡ signed minus size → size ≤ 2 ^ 62 → unsigned_abs q ≤ 2 ^ 62
part_small q minus size is small = rw (is, unsigned_abs-signed minus size) small

-- ---- the common divisor of an entry and a pivot

pub common_divides : (a p : ℤ) (g : ℕ) → g ≡ gcd_of (unsigned_abs a) (unsigned_abs p) → (g ∣ unsigned_abs a) × (g ∣ unsigned_abs p)
common_divides a p g is = let d = gcd_is (unsigned_abs a) (unsigned_abs p) in rw is (d.0, d.1)

pub common_some : (a p : ℤ) (g : ℕ) → g ≡ gcd_of (unsigned_abs a) (unsigned_abs p) → pos 0 <ℤ p → 0 < g
common_some a p g is some = rw is (gcd_pos (unsigned_abs a) (unsigned_abs p) (omega (arith, ints, some)))

-- ---- a common divisor and one more number

pub gcd_of_multiple : (common n rest : ℕ) → rest ≡ n % common → rest ≡ 0 → common ≡ gcd_of common n
gcd_of_multiple common n rest is none =
    sym (gcd_of-swap common n ∙ sym (gcd_of-mod n common) ∙ ap (λ (x : ℕ). gcd_of common x) (sym is ∙ none) ∙ gcd_of-zero common 0 refl)

pub gcd_by_remainder : (common n rest r : ℕ) → 0 < common → common ≤ 2 ^ 125 → rest ≡ n % common → r ≡ gcd_of (unsigned_abs (to_z w128 common)) (unsigned_abs (to_z w128 rest)) → r ≡ gcd_of common n
gcd_by_remainder common n rest r some small is r_is =
    let below : rest < common = rw is (mod_below n common some) in
    let c : unsigned_abs (to_z w128 common) ≡ common = ap unsigned_abs (to_z_pos w128 common (omega (arith, small))) in
    let d : unsigned_abs (to_z w128 rest) ≡ rest = ap unsigned_abs (to_z_pos w128 rest (omega (arith, small, below))) in
    r_is ∙ ap₂ (λ (x y : ℕ). gcd_of x y) c (d ∙ is) ∙ gcd_of-mod n common ∙ gcd_of-swap n common

pub product_some : (a b : ℤ) → pos 0 <ℤ a → pos 0 <ℤ b → 0 < unsigned_abs (a *ℤ b)
product_some a b h k =
    let m : 0 < unsigned_abs a = omega (arith, ints, h) in
    let n : 0 < unsigned_abs b = omega (arith, ints, k) in
    let p : 0 < unsigned_abs a * unsigned_abs b = mul-pos m n in
    omega (arith, p, unsigned_abs-mul a b)

module _ (number : ℕ → ℤ) (k common r : ℕ) (some : 0 < common) (small : common ≤ 2 ^ 125) (before : (j : ℕ) → j < k → common ∣ unsigned_abs (number j))
    (is : r ≡ gcd_of common (unsigned_abs (number k))) where
  both : (r ∣ common) × (r ∣ unsigned_abs (number k))
  both = let g = gcd_is common (unsigned_abs (number k)) in rw is (g.0, g.1)

  pub some_after : 0 < r
  some_after = pos_of_dvd_of_pos both.0 some

  pub small_after : r ≤ 2 ^ 125
  small_after = let le : r ≤ common = le_of_dvd some both.0 in omega (arith, le, small)

  pub divides_after : (j : ℕ) → j < k + 1 → r ∣ unsigned_abs (number j)
  divides_after = below_more (λ (j : ℕ). r ∣ unsigned_abs (number j)) k (λ j h. dvd_trans r both.0 (before j h)) both.1

-- ---- the numbers of a row

-- one more is written
pub parts_more : (number : ℕ → ℤ) (divisor k : ℕ) (out : List ℤ) (x : ℤ) → k < length out
    → HasParts divisor number k out → x *ℤ pos divisor ≡ number k → IsSmall x → HasParts divisor number (k + 1) (set out k x)
parts_more number divisor k out x inside before is small =
    let P : ℕ → Type 0 = λ j. (at_place (set out k x) j *ℤ pos divisor ≡ number j) × IsSmall (at_place (set out k x) j) in
    below_more P k
    (λ j h. rw (get_or-set_other out k j x (pos 0) (λ e. omega (arith, h, e))) (before j h))
    (rw (get_or-set_same out k x (pos 0) inside) (is, small))
