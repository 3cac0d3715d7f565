-- Forms over a box, variable by variable: how large their parts get, and boxes of single values.
use Rattle.std.proofs.Common.{◌≡◌, ℕ, zero, suc, ◌+◌, ◌-◌, ◌*◌, ◌<◌, ◌≤◌, List, [], ◌∷◌, length, get_or, All, refl, sym, ap, ap₂, ◌∙◌, arith, unsigned_abs, neg_ℤ, ℤ, pos, negsuc, ◌+ℤ◌, ◌*ℤ◌, Bool, true, false}
use Rattle.std.specs.Prelude.{if◌then◌else◌, ◌==◌}
use Rattle.std.specs.Option.{option_map_or}
use native.Mathlib.Nat.{zero-mul}
use Rattle.std.proofs.Math.Nat.{mul-le-mul_left}
use Rattle.std.proofs.lemmas.Int.{ints}
use Rattle.std.proofs.lemmas.List.Elements.{All-head, All-tail}
use Rattle.std.proofs.lemmas.List.Sums.{sum_by-cons}
use Rattle.std.proofs.lemmas.Option.{slice_get-get_or}
use Rattle.qm_math.proofs.Polynomials.{number, ◌⊕◌, ◌⊗◌, minus}
use Rattle.qm_math.proofs.Ring.{x0, x1, ring}
use Rattle.qm_math.specs.Ranges.{reach, least_product, greatest_product}
use Rattle.qm_math.specs.Sums.{sum_from}
use Rattle.qm_model.specs.declared.range.Range.{Range}
use Rattle.qm_model.specs.declared.row.Term.{Term}
use Rattle.qm_model.specs.Boxes.{least_value, greatest_value}
use Rattle.qm_model.specs.Linear.{IsOrdered, HasVarsBelow, coefficient, sum_over}
use Rattle.qm_model.specs.Sizes.{reach_in_box, terms_size}
use Rattle.qm_model.proofs.Forms.{sum_of_terms}
use Rattle.qm_model.proofs.TermSums.{sum_over-sum_at}
use Rattle.qm_model.proofs.BoxForms.{no_range}

-- each coefficient's magnitude times how far its variable reaches, added up for the variables from `first` on
abbrev pub sizes_from : (ℕ → ℤ) → ℕ → List Range → ℕ
sizes_from k first [] = 0
sizes_from k first (r ∷ bx) = unsigned_abs (k first) * reach r.low r.high + sizes_from k (suc first) bx

-- the size of a part as a whole number
abbrev size_part : ℤ → Range → ℤ
size_part k r = pos (unsigned_abs k * reach r.low r.high)

-- the coefficient 0 gives nothing
no_part : (r : Range) → size_part (pos 0) r ≡ pos 0
no_part r = ap pos (zero-mul (reach r.low r.high))

-- the sizes as a sum over all variables
sizes_sum : (k : ℕ → ℤ) (ts : List Term) → ((var : ℕ) → unsigned_abs (k var) ≡ unsigned_abs (coefficient ts var)) → (first : ℕ) (bx : List Range)
    → pos (sizes_from k first bx) ≡ sum_over size_part ts first bx
sizes_sum k ts same first [] = refl
sizes_sum k ts same first (r ∷ bx) =
    ap₂ (λ (m : ℕ) (z : ℤ). pos (m * reach r.low r.high) +ℤ z) (same first) (sizes_sum k ts same (suc first) bx)

-- the sum over the terms is their size
terms_sum : (ts : List Term) (bx : List Range) → HasVarsBelow (length bx) ts → sum_of_terms size_part no_range ts 0 bx ≡ pos (terms_size (reach_in_box bx) ts)
terms_sum [] bx below = refl
terms_sum (t ∷ ts) bx below =
    let place : t.var - 0 ≡ t.var = omega arith in
    let range = slice_get-get_or bx t.var no_range (All-head (λ (u : Term). u.var < length bx) t ts below) in
    let first : reach_in_box bx t.var ≡ reach (get_or bx t.var no_range).low (get_or bx t.var no_range).high =
    ap (λ o. option_map_or (λ (r : Range). reach r.low r.high) o 1) range in
    let rest = terms_sum ts bx (All-tail (λ (u : Term). u.var < length bx) t ts below) in
    ap (λ (i : ℕ). size_part t.coef (get_or bx i no_range) +ℤ sum_of_terms size_part no_range ts 0 bx) place
    ∙ ap₂ (λ (m : ℕ) (z : ℤ). pos (unsigned_abs t.coef * m) +ℤ z) (sym first) rest
    ∙ sym (ap pos (sum_by-cons (λ (u : Term). unsigned_abs u.coef * reach_in_box bx u.var) t ts))

-- over all variables the sizes are those of the terms
pub sizes-terms_size : (k : ℕ → ℤ) (ts : List Term) (bx : List Range) → ((var : ℕ) → unsigned_abs (k var) ≡ unsigned_abs (coefficient ts var)) → IsOrdered ts → HasVarsBelow (length bx) ts
    → sizes_from k 0 bx ≡ terms_size (reach_in_box bx) ts
sizes-terms_size k ts bx same order below =
    let e : pos (sizes_from k 0 bx) ≡ pos (terms_size (reach_in_box bx) ts) =
    sizes_sum k ts same 0 bx ∙ sum_over-sum_at size_part no_range (λ (r : Range). reach r.low r.high) (λ r. no_part r) ts bx order below ∙ terms_sum ts bx below in
    omega (arith, ints, e)

-- ---- no coefficient is greater than the size of the terms

unsigned_abs-if_added : (b : Bool) (k c : ℤ) (here rest : ℕ) → unsigned_abs k ≤ here → unsigned_abs c ≤ rest
    → unsigned_abs (let z : ℤ = if b then k +ℤ c else c in z) ≤ here + rest
unsigned_abs-if_added true k c here rest h g = omega (arith, ints)
unsigned_abs-if_added false k c here rest h g = omega arith

pub coefficient_size : (reach_of : ℕ → ℕ) → ((var : ℕ) → 1 ≤ reach_of var) → (ts : List Term) (var : ℕ) → unsigned_abs (coefficient ts var) ≤ terms_size reach_of ts
coefficient_size reach_of some [] var = omega arith
coefficient_size reach_of some (t ∷ ts) var =
    let times = mul-le-mul_left (unsigned_abs t.coef) (some t.var) in
    let here : unsigned_abs t.coef ≤ unsigned_abs t.coef * reach_of t.var = omega (arith, times) in
    let both = unsigned_abs-if_added (t.var == var) t.coef (coefficient ts var) (unsigned_abs t.coef * reach_of t.var) (terms_size reach_of ts) here (coefficient_size reach_of some ts var) in
    omega (arith, both, sum_by-cons (λ (u : Term). unsigned_abs u.coef * reach_of u.var) t ts)

-- each range of a box reaches at least 1
pub box_reach_some : (bx : List Range) (var : ℕ) → 1 ≤ reach_in_box bx var
box_reach_some [] var = omega arith
box_reach_some (r ∷ bx) zero = omega arith
box_reach_some (r ∷ bx) (suc var) = box_reach_some bx var

-- ---- coefficients of the other sign

negated_part : (k low high : ℤ) → least_product (neg_ℤ k) low high ≡ neg_ℤ (greatest_product k low high)
negated_part (pos zero) low high = ring (low ∷ high ∷ []) (number (pos 0) ⊗ x0) (minus (number (pos 0) ⊗ x1)) refl
negated_part (pos (suc n)) low high = ring (pos (suc n) ∷ high ∷ []) (minus x0 ⊗ x1) (minus (x0 ⊗ x1)) refl
negated_part (negsuc n) low high = ring (negsuc n ∷ low ∷ []) (minus x0 ⊗ x1) (minus (x0 ⊗ x1)) refl

negated_sum : (ts : List Term) (first : ℕ) (bx : List Range)
    → sum_from (λ var (r : Range). least_product (neg_ℤ (coefficient ts var)) r.low r.high) first bx ≡ neg_ℤ (sum_over (λ k (r : Range). greatest_product k r.low r.high) ts first bx)
negated_sum ts first [] = refl
negated_sum ts first (r ∷ bx) =
    ap₂ (λ (x y : ℤ). x +ℤ y) (negated_part (coefficient ts first) r.low r.high) (negated_sum ts (suc first) bx)
    ∙ ring (greatest_product (coefficient ts first) r.low r.high ∷ sum_over (λ k (q : Range). greatest_product k q.low q.high) ts (suc first) bx ∷ [])
    (minus x0 ⊕ minus x1) (minus (x0 ⊕ x1)) refl

-- the least value of the form of the other sign
pub least-negated : (ts : List Term) (bx : List Range) → sum_from (λ var (r : Range). least_product (neg_ℤ (coefficient ts var)) r.low r.high) 0 bx ≡ neg_ℤ (greatest_value ts bx)
least-negated ts bx = negated_sum ts 0 bx

-- ---- boxes of single values

-- both ends of one value give the same
single_part : (k low high : ℤ) → low ≡ high → greatest_product k low high ≡ least_product k low high
single_part (pos n) low high e = ap (λ (v : ℤ). pos n *ℤ v) (sym e)
single_part (negsuc n) low high e = ap (λ (v : ℤ). negsuc n *ℤ v) e

single_sum : (ts : List Term) (first : ℕ) (bx : List Range) → All (λ (r : Range). r.low ≡ r.high) bx
    → sum_over (λ k (r : Range). greatest_product k r.low r.high) ts first bx ≡ sum_over (λ k (r : Range). least_product k r.low r.high) ts first bx
single_sum ts first [] single = refl
single_sum ts first (r ∷ bx) single =
    ap₂ (λ (x y : ℤ). x +ℤ y) (single_part (coefficient ts first) r.low r.high (All-head (λ (q : Range). q.low ≡ q.high) r bx single))
    (single_sum ts (suc first) bx (All-tail (λ (q : Range). q.low ≡ q.high) r bx single))

-- the greatest value over a box of single values is the least
pub greatest-least_value : (ts : List Term) (bx : List Range) → All (λ (r : Range). r.low ≡ r.high) bx → greatest_value ts bx ≡ least_value ts bx
greatest-least_value ts bx single = single_sum ts 0 bx single
