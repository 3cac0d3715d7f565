-- The least value of a form: a range narrowed at its worse end leaves it, and each term of a form is as far from its
-- least multiple as the whole form at most.
use Rattle.std.proofs.Common.{◌≡◌, ◌≢◌, ◌∙◌, sym, ap, refl, ℕ, zero, suc, ◌+◌, ◌<◌, ◌≤◌, List, [], ◌∷◌, length, get_or, set, arith, ℤ, pos, ◌+ℤ◌, ◌*ℤ◌, ◌≤ℤ◌, All}
use Rattle.std.specs.Prelude.{negsuc, Some, slice_get}
use Rattle.std.proofs.lemmas.Bool.Decides.{nat_tests}
use Rattle.std.proofs.lemmas.Int.{ints}
use Rattle.qm_math.specs.Ranges.{least_product}
use Rattle.qm_math.specs.Sums.{sum_from}
use Rattle.qm_math.proofs.Between.{neg_times, pos_times}
use Rattle.qm_math.proofs.Whole.{add-*ℤ, *ℤ_assoc}
use Rattle.qm_model.specs.declared.range.Range.{Range}
use Rattle.qm_model.specs.declared.row.Term.{Term}
use Rattle.qm_model.specs.declared.variable.Var.{Var}
use Rattle.qm_model.specs.Boxes.{least_value}
use Rattle.qm_model.specs.Linear.{IsOrdered, IsOrderedFrom, coefficient, sum_over}
use Rattle.qm_model.proofs.Forms.{coefficient-later, coefficient-other}
use Rattle.qm_prop.specs.Points.{AreIn}

-- ---- the coefficient of a term's variable
coefficient-here : (t : Term) (ts : List Term) (least : ℕ) → IsOrderedFrom least (t ∷ ts) → coefficient (t ∷ ts) t.var ≡ t.coef
coefficient-here t ts least order =
    let none : coefficient ts t.var ≡ pos 0 = coefficient-later ts (suc t.var) t.var order.2 (omega arith) in
    same t ts none
  where
    same : (t : Term) (ts : List Term) → coefficient ts t.var ≡ pos 0 → coefficient (t ∷ ts) t.var ≡ t.coef
    same t ts none = grind (arith, nat_tests, ints)

var-from : (ts : List Term) (least i : ℕ) (d : Term) → IsOrderedFrom least ts → i < length ts → least ≤ (get_or ts i d).var
var-from [] least i d order h = absurd (omega arith)
var-from (t ∷ ts) least zero d order h = omega (arith, order.0)
var-from (t ∷ ts) least (suc i) d order h = omega (arith, order.0, var-from ts (suc t.var) i d order.2 (omega arith))

coefficient-from : (ts : List Term) (least i : ℕ) (d : Term) → IsOrderedFrom least ts → i < length ts → coefficient ts (get_or ts i d).var ≡ (get_or ts i d).coef
coefficient-from [] least i d order h = absurd (omega arith)
coefficient-from (t ∷ ts) least zero d order h = coefficient-here t ts least order
coefficient-from (t ∷ ts) least (suc i) d order h =
    let later : suc t.var ≤ (get_or ts i d).var = var-from ts (suc t.var) i d order.2 (omega arith) in
    coefficient-other t ts (get_or ts i d).var (λ e. omega (arith, later, e)) ∙ coefficient-from ts (suc t.var) i d order.2 (omega arith)

coef-from : (ts : List Term) (least i : ℕ) (d : Term) → IsOrderedFrom least ts → i < length ts → (get_or ts i d).coef ≢ pos 0
coef-from [] least i d order h = absurd (omega arith)
coef-from (t ∷ ts) least zero d order h = order.1
coef-from (t ∷ ts) least (suc i) d order h = coef-from ts (suc t.var) i d order.2 (omega arith)

-- a term of these terms
pub record IsTermOf (ts : List Term) (t : Term) : Type 0 where
  pub coefficient : coefficient ts t.var ≡ t.coef
  pub some : t.coef ≢ pos 0

pub terms-of : (ts : List Term) → IsOrdered ts → All (IsTermOf ts) ts
terms-of ts order i d h = record { coefficient = coefficient-from ts 0 i d order h; some = coef-from ts 0 i d order h }

-- ---- a range in another's place
sum_from-set : {A : Type 0} (f : ℕ → A → ℤ) (first : ℕ) (xs : List A) (var : ℕ) (x y : A) → slice_get xs var ≡ Some x → f (first + var) y ≡ f (first + var) x
    → sum_from f first (set xs var y) ≡ sum_from f first xs
sum_from-set f first [] var x y at e = refl
sum_from-set f first (a ∷ xs) zero x y at e =
    let here : first + 0 ≡ first = omega arith in
    let is : a ≡ x = cc in
    ap (λ z. z +ℤ sum_from f (suc first) xs) (rw here at e ∙ ap (f first) (sym is))
sum_from-set f first (a ∷ xs) (suc var) x y at e =
    let next : first + suc var ≡ suc first + var = omega arith in
    ap (λ z. f first a +ℤ z) (sum_from-set f (suc first) xs var x y at (rw next at e))

pub least_value-set : (ts : List Term) (bx : List Range) (var : ℕ) (r to : Range) → slice_get bx var ≡ Some r
    → least_product (coefficient ts var) to.low to.high ≡ least_product (coefficient ts var) r.low r.high → least_value ts (set bx var to) ≡ least_value ts bx
least_value-set ts bx var r to at e =
    let same : 0 + var ≡ var = omega arith in
    sum_from-set (λ v (p : Range). least_product (coefficient ts v) p.low p.high) 0 bx var r to at
    (rw same e)

-- ---- distances from least values
least_over : (k low high v : ℤ) (den : ℕ) → (low *ℤ pos den) ≤ℤ v → v ≤ℤ (high *ℤ pos den) → (least_product k low high *ℤ pos den) ≤ℤ (k *ℤ v)
least_over (pos n) low high v den at_least at_most = rw (*ℤ_assoc (pos n) low (pos den)) (pos_times n (low *ℤ pos den) v at_least)
least_over (negsuc n) low high v den at_least at_most = rw (*ℤ_assoc (negsuc n) high (pos den)) (neg_times n v (high *ℤ pos den) at_most)

abbrev pub least_from : List Term → ℕ → List Range → ℤ
least_from ts first bx = sum_over (λ k (r : Range). least_product k r.low r.high) ts first bx

abbrev pub form_from : List Term → ℕ → List ℤ → ℤ
form_from ts first values = sum_over ◌*ℤ◌ ts first values

pub least-le-form : (ts : List Term) (first den : ℕ) (xs : List Var) (bx : List Range) (values : List ℤ) → AreIn den xs bx values
    → (least_from ts first bx *ℤ pos den) ≤ℤ form_from ts first values
least-le-form ts first den [] [] [] within = omega (arith, ints)
least-le-form ts first den (x ∷ xs) (r ∷ bx) (v ∷ values) within =
    let here = least_over (coefficient ts first) r.low r.high v den within.0.low within.0.high in
    let rest = least-le-form ts (suc first) den xs bx values within.1 in
    let both = add-*ℤ (least_product (coefficient ts first) r.low r.high) (least_from ts (suc first) bx) (pos den) in
    omega (arith, ints, here, rest, both)
least-le-form ts first den [] [] (v ∷ values) within = absurd within
least-le-form ts first den [] (r ∷ bx) values within = absurd within
least-le-form ts first den (x ∷ xs) [] values within = absurd within
least-le-form ts first den (x ∷ xs) (r ∷ bx) [] within = absurd within

-- one variable is no farther from its least multiple than the form from its least value
pub apart-le : (ts : List Term) (first den : ℕ) (xs : List Var) (bx : List Range) (values : List ℤ) (var : ℕ) (r : Range) (v : ℤ) → AreIn den xs bx values
    → slice_get bx var ≡ Some r → slice_get values var ≡ Some v
    → ((coefficient ts (first + var) *ℤ v) +ℤ (least_from ts first bx *ℤ pos den)) ≤ℤ (form_from ts first values +ℤ (least_product (coefficient ts (first + var)) r.low r.high *ℤ pos den))
apart-le ts first den [] [] [] var r v within at_r at_v = absurd (cc)
apart-le ts first den (x ∷ xs) (q ∷ bx) (u ∷ values) zero r v within at_r at_v =
    let same : first + 0 ≡ first = omega arith in
    let is_r : q ≡ r = cc in
    let is_v : u ≡ v = cc in
    let rest = least-le-form ts (suc first) den xs bx values within.1 in
    let both = add-*ℤ (least_product (coefficient ts first) q.low q.high) (least_from ts (suc first) bx) (pos den) in
    rw (same, ← is_r, ← is_v) (omega (arith, ints, rest, both))
apart-le ts first den (x ∷ xs) (q ∷ bx) (u ∷ values) (suc var) r v within at_r at_v =
    let next : first + suc var ≡ suc first + var = omega arith in
    let here = least_over (coefficient ts first) q.low q.high u den within.0.low within.0.high in
    let rest = apart-le ts (suc first) den xs bx values var r v within.1 at_r at_v in
    let both = add-*ℤ (least_product (coefficient ts first) q.low q.high) (least_from ts (suc first) bx) (pos den) in
    rw next (omega (arith, ints, here, rest, both))
apart-le ts first den [] [] (u ∷ values) var r v within at_r at_v = absurd within
apart-le ts first den [] (q ∷ bx) values var r v within at_r at_v = absurd within
apart-le ts first den (x ∷ xs) [] values var r v within at_r at_v = absurd within
apart-le ts first den (x ∷ xs) (q ∷ bx) [] var r v within at_r at_v = absurd within
