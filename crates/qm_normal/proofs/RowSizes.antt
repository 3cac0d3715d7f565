-- The size of a row, term by term, and that no number of a row exceeds it.
use Rattle.std.proofs.Common.{◌≡◌, ℕ, suc, ◌+◌, ◌*◌, ◌≤◌, Bool, true, false, cond, List, [], ◌∷◌, map, refl, sym, subst, arith, ℤ, pos, unsigned_abs}
use Rattle.std.specs.Prelude.{All}
use Rattle.std.specs.Ordering.{int_eq}
use Rattle.std.proofs.Math.Nat.{mul-le-mul_left}
use Rattle.std.proofs.lemmas.Bool.Decides.{Decides-int_eq}
use Rattle.std.proofs.lemmas.Int.{ints}
use Rattle.std.proofs.lemmas.List.Elements.{All-nil, All-cons, All-weaker}
use Rattle.std.proofs.lemmas.List.Sums.{sum_by-cons}
use Rattle.qm_math.specs.Fraction.{Fraction}
use Rattle.qm_model.specs.declared.row.Term.{Term}
use Rattle.qm_model.specs.Sizes.{terms_size}
use Rattle.qm_normal.specs.Rows.{nonzero_from, times}

-- ---- the coefficients that aren't 0

abbrev in_front : ℕ → ℤ → List ℤ → Bool → List Term
in_front n k ks is_zero = cond is_zero (nonzero_from (suc n) ks) (record { var = n; coef = k } ∷ nonzero_from (suc n) ks)

nonzero-cons : (n : ℕ) (k : ℤ) (ks : List ℤ) → nonzero_from n (k ∷ ks) ≡ in_front n k ks (int_eq k (pos 0))
unfolding nonzero_from
nonzero-cons n k ks = refl

abbrev Covers : (ℕ → ℕ) → ℕ → ℤ → List ℤ → List Term → Type 0
Covers reach_of n k ks terms = (unsigned_abs k ≤ terms_size reach_of terms) × (terms_size reach_of (nonzero_from (suc n) ks) ≤ terms_size reach_of terms)

covers_either : (reach_of : ℕ → ℕ) → ((var : ℕ) → 1 ≤ reach_of var) → (n : ℕ) (k : ℤ) (ks : List ℤ) (b : Bool) → int_eq k (pos 0) ≡ b → Covers reach_of n k ks (in_front n k ks b)
covers_either reach_of some n k ks true e =
    let zero : k ≡ pos 0 = (Decides-int_eq k (pos 0)).0 e in
    (omega (arith, ints, zero), omega arith)
covers_either reach_of some n k ks false e =
    let times_reach : unsigned_abs k * 1 ≤ unsigned_abs k * reach_of n = mul-le-mul_left (unsigned_abs k) (some n) in
    let sum : terms_size reach_of (record { var = n; coef = k } ∷ nonzero_from (suc n) ks) ≡ unsigned_abs k * reach_of n + terms_size reach_of (nonzero_from (suc n) ks) =
    sum_by-cons (λ (t : Term). unsigned_abs t.coef * reach_of t.var) (record { var = n; coef = k }) (nonzero_from (suc n) ks) in
    (omega (arith, times_reach, sum), omega (arith, sum))

covers : (reach_of : ℕ → ℕ) → ((var : ℕ) → 1 ≤ reach_of var) → (n : ℕ) (k : ℤ) (ks : List ℤ) → Covers reach_of n k ks (nonzero_from n (k ∷ ks))
covers reach_of some n k ks =
    subst (Covers reach_of n k ks) (sym (nonzero-cons n k ks)) (covers_either reach_of some n k ks (int_eq k (pos 0)) refl)

-- none of them exceeds the size
pub within_size : (reach_of : ℕ → ℕ) → ((var : ℕ) → 1 ≤ reach_of var) → (d n : ℕ) (sums : List Fraction)
    → All (λ sum. unsigned_abs (times d sum) ≤ terms_size reach_of (nonzero_from n (map (times d) sums))) sums
within_size reach_of some d n [] = All-nil (λ (sum : Fraction). unsigned_abs (times d sum) ≤ terms_size reach_of (nonzero_from n (map (times d) [])))
within_size reach_of some d n (first ∷ sums) =
    let here = covers reach_of some n (times d first) (map (times d) sums) in
    let size = terms_size reach_of (nonzero_from n (map (times d) (first ∷ sums))) in
    let part = terms_size reach_of (nonzero_from (suc n) (map (times d) sums)) in
    let rest = within_size reach_of some d (suc n) sums in
    All-cons (λ (sum : Fraction). unsigned_abs (times d sum) ≤ size) first sums here.0
    (All-weaker (λ (sum : Fraction). unsigned_abs (times d sum) ≤ part) (λ (sum : Fraction). unsigned_abs (times d sum) ≤ size) (λ sum le. omega (arith, le, here.1)) sums rest)
