-- A form over all variables is the sum over its terms.
use Rattle.std.proofs.Common.{◌≡◌, ◌≢◌, ℕ, suc, ◌+◌, ◌-◌, ◌<◌, ◌≤◌, List, [], ◌∷◌, length, get_or, arith, refl, sym, ap, ◌∙◌, inl, inr}
use Rattle.std.proofs.lemmas.Int.{ints}
use Rattle.std.proofs.Math.Nat.{eq-or-lt_of_le}
use Rattle.std.proofs.lemmas.Bool.Decides.{nat_tests}
use Rattle.std.proofs.lemmas.List.Elements.{All-head, All-tail}
use Rattle.std.specs.Prelude.{ℤ, pos, ◌+ℤ◌}
use Rattle.qm_math.specs.Sums.{sum_of_each}
use Rattle.qm_model.specs.declared.row.Term.{Term}
use Rattle.qm_model.specs.Linear.{IsOrdered, IsOrderedFrom, HasVarsBelow, coefficient, sum_over}

-- a term of another variable gives nothing
pub coefficient-other : (t : Term) (ts : List Term) (var : ℕ) → t.var ≢ var → coefficient (t ∷ ts) var ≡ coefficient ts var
coefficient-other t ts var h = grind (arith, nat_tests)

pub coefficient-same : (t : Term) (ts : List Term) (var : ℕ) → t.var ≡ var → coefficient (t ∷ ts) var ≡ t.coef +ℤ coefficient ts var
coefficient-same t ts var h = grind (arith, nat_tests)

-- terms of later variables give nothing
pub coefficient-later : (ts : List Term) (least var : ℕ) → IsOrderedFrom least ts → var < least → coefficient ts var ≡ pos 0
coefficient-later [] least var order h = refl
coefficient-later (t ∷ ts) least var order h =
    coefficient-other t ts var (omega (arith, order.0)) ∙ coefficient-later ts (suc t.var) var order.2 (omega (arith, order.0))

pub IsOrderedFrom-weaker : (ts : List Term) (least more : ℕ) → least ≤ more → IsOrderedFrom more ts → IsOrderedFrom least ts
IsOrderedFrom-weaker [] least more h order = tt
IsOrderedFrom-weaker (t ∷ ts) least more h order = (omega (arith, order.0), order.1, order.2)

module _ {A : Type 0} (f : ℤ → A → ℤ) (d : A) where
  -- the sum of what each term gives with its variable's part, where the parts are those of the variables from `first` on
  abbrev pub sum_of_terms : List Term → ℕ → List A → ℤ
  sum_of_terms [] first parts = pos 0
  sum_of_terms (t ∷ ts) first parts = f t.coef (get_or parts (t.var - first) d) +ℤ sum_of_terms ts first parts

  sum_over-other : (t : Term) (ts : List Term) (first : ℕ) (parts : List A) → t.var < first
      → sum_over f (t ∷ ts) first parts ≡ sum_over f ts first parts
  sum_over-other t ts first [] h = refl
  sum_over-other t ts first (a ∷ parts) h =
      let e = coefficient-other t ts first (omega arith) in
      let rest = sum_over-other t ts (suc first) parts (omega arith) in
      rw (e, rest)

  sum_of_terms_shift : (a : A) (ts : List Term) (first : ℕ) (parts : List A) → IsOrderedFrom (suc first) ts
      → sum_of_terms ts (suc first) parts ≡ sum_of_terms ts first (a ∷ parts)
  sum_of_terms_shift a [] first parts order = refl
  sum_of_terms_shift a (t ∷ ts) first parts order =
      let e : t.var - first ≡ suc (t.var - suc first) = omega (arith, order.0) in
      let rest = sum_of_terms_shift a ts first parts (IsOrderedFrom-weaker ts (suc first) (suc t.var) (omega (arith, order.0)) order.2) in
      rw (e, rest)

  -- a form over all variables is the sum over its terms
  pub sum_over-sum_of_terms : ((a : A) → f (pos 0) a ≡ pos 0) → (ts : List Term) (first : ℕ) (parts : List A) → IsOrderedFrom first ts → HasVarsBelow (first + length parts) ts
      → sum_over f ts first parts ≡ sum_of_terms ts first parts
  sum_over-sum_of_terms none [] first [] order below = refl
  sum_over-sum_of_terms none (t ∷ ts) first [] order below = absurd (omega (arith, order.0, All-head (λ (u : Term). u.var < first + 0) t ts below))
  sum_over-sum_of_terms none [] first (a ∷ parts) order below =
      let rest = sum_over-sum_of_terms none [] (suc first) parts tt (λ k u h. absurd (omega arith)) in
      rw (none a, rest)
  sum_over-sum_of_terms none (t ∷ ts) first (a ∷ parts) order below =
      let later : HasVarsBelow (suc first + length parts) (t ∷ ts) = λ k u h. omega (arith, below k u h) in
      let at_first : first ≤ t.var = omega (arith, order.0) in
      elim (eq-or-lt_of_le at_first) [
        | inl e ↦
            let order' : IsOrderedFrom (suc first) ts = IsOrderedFrom-weaker ts (suc first) (suc t.var) (omega arith) order.2 in
            let none_later : coefficient ts first ≡ pos 0 = coefficient-later ts (suc t.var) first order.2 (omega arith) in
            let here : coefficient (t ∷ ts) first ≡ t.coef = coefficient-same t ts first (sym e) ∙ omega (arith, ints) in
            let rest : sum_over f (t ∷ ts) (suc first) parts ≡ sum_of_terms ts first (a ∷ parts) =
            sum_over-other t ts (suc first) parts (omega arith)
            ∙ sum_over-sum_of_terms none ts (suc first) parts order' (All-tail (λ (u : Term). u.var < suc first + length parts) t ts later)
            ∙ sum_of_terms_shift a ts first parts order' in
            let place : t.var - first ≡ 0 = omega arith in
            rw (here, rest, place)
        | inr h ↦
            let order' : IsOrderedFrom (suc first) (t ∷ ts) = (omega arith, order.1, order.2) in
            let here : coefficient (t ∷ ts) first ≡ pos 0 = coefficient-later (t ∷ ts) (suc first) first order' (omega arith) in
            let rest : sum_over f (t ∷ ts) (suc first) parts ≡ sum_of_terms (t ∷ ts) first (a ∷ parts) =
            sum_over-sum_of_terms none (t ∷ ts) (suc first) parts order' later ∙ sum_of_terms_shift a (t ∷ ts) first parts order' in
            rw (here, none a, rest) (omega (arith, ints))
      ]

-- a sum over the terms, each with its variable's part
pub sum_of_terms-each : {A : Type 0} (f : ℤ → A → ℤ) (d : A) (ts : List Term) (parts : List A)
    → sum_of_terms f d ts 0 parts ≡ sum_of_each (λ t. f t.coef (get_or parts t.var d)) ts
sum_of_terms-each f d [] parts = refl
sum_of_terms-each f d (t ∷ ts) parts =
    let same : t.var - 0 ≡ t.var = omega arith in
    ap (λ k. f t.coef (get_or parts k d) +ℤ sum_of_terms f d ts 0 parts) same ∙ ap (λ z. f t.coef (get_or parts t.var d) +ℤ z) (sum_of_terms-each f d ts parts)

pub sum_over-each : {A : Type 0} (f : ℤ → A → ℤ) (d : A) → ((a : A) → f (pos 0) a ≡ pos 0) → (ts : List Term) (parts : List A) → IsOrdered ts → HasVarsBelow (length parts) ts
    → sum_over f ts 0 parts ≡ sum_of_each (λ t. f t.coef (get_or parts t.var d)) ts
sum_over-each f d none ts parts order below = sum_over-sum_of_terms f d none ts 0 parts order (λ k u h. omega (arith, below k u h)) ∙ sum_of_terms-each f d ts parts
