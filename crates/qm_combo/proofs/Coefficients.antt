-- What ordered terms give a variable.
use Rattle.std.proofs.Common.{◌≡◌, ℕ, zero, suc, ◌+◌, ◌<◌, ◌≤◌, List, [], ◌∷◌, length, get_or, drop, arith, subst, sym, pos, ◌+ℤ◌, ◌↔◌, Option}
use Rattle.std.specs.Prelude.{IfSome, slice_get}
use Rattle.std.proofs.lemmas.Option.{slice_get-get_or}
use Rattle.std.proofs.lemmas.Int.{ints}
use Rattle.std.proofs.lemmas.Bool.Decides.{nat_tests}
use Rattle.std.proofs.lemmas.List.{at_drop_more, drop_all, drop_more}
use Rattle.qm_model.specs.declared.row.Term.{Term}
use Rattle.qm_model.specs.Linear.{IsOrdered, IsOrderedFrom, coefficient}
use Rattle.qm_model.proofs.Forms.{coefficient-later, coefficient-other, IsOrderedFrom-weaker}

abbrev pub no_term : Term
no_term = record { var = 0; coef = pos 0 }

ordered_drop : (ts : List Term) (least i : ℕ) → IsOrderedFrom least ts → IsOrderedFrom least (drop i ts)
ordered_drop ts least zero order = order
ordered_drop [] least (suc i) order = tt
ordered_drop (t ∷ ts) least (suc i) order = IsOrderedFrom-weaker (drop i ts) least (suc t.var) (omega (arith, order.0)) (ordered_drop ts (suc t.var) i order.2)

-- the first of ordered terms gives its variable all that it has
coefficient_first : (t : Term) (ts : List Term) (var : ℕ) → IsOrdered (t ∷ ts) → t.var ≡ var → coefficient (t ∷ ts) var ≡ t.coef
coefficient_first t ts var order e =
    let later = coefficient-later ts (suc t.var) var order.2 (omega arith) in
    let same : coefficient (t ∷ ts) var ≡ t.coef +ℤ coefficient ts var = grind (arith, nat_tests) in
    omega (arith, ints, same, later)

ordered_at : (ts : List Term) (i : ℕ) → i < length ts → IsOrdered ts → IsOrdered (get_or ts i no_term ∷ drop (i + 1) ts)
ordered_at ts i h order = subst (λ xs. IsOrderedFrom 0 xs) (drop_more ts i no_term h) (ordered_drop ts 0 i order)

-- the term at i has the variable
pub coefficient_found : (ts : List Term) (i var : ℕ) → i < length ts → IsOrdered ts → (get_or ts i no_term).var ≡ var
    → coefficient (drop i ts) var ≡ coefficient ts var → (get_or ts i no_term).coef ≡ coefficient ts var
coefficient_found ts i var h order e before =
    let here = at_drop_more (λ xs. coefficient xs var) ts i no_term h in
    let first = coefficient_first (get_or ts i no_term) (drop (i + 1) ts) var (ordered_at ts i h order) e in
    omega (arith, ints, here, first, before)

-- the term at i has a later variable
pub coefficient_passed : (ts : List Term) (i var : ℕ) → i < length ts → IsOrdered ts → var < (get_or ts i no_term).var
    → coefficient (drop i ts) var ≡ coefficient ts var → pos 0 ≡ coefficient ts var
coefficient_passed ts i var h order less before =
    let t = get_or ts i no_term in
    let rest = drop (i + 1) ts in
    let here = at_drop_more (λ xs. coefficient xs var) ts i no_term h in
    let o = ordered_at ts i h order in
    let after : IsOrderedFrom t.var (t ∷ rest) = (omega arith, o.1, o.2) in
    let none = coefficient-later (t ∷ rest) t.var var after less in
    omega (arith, ints, here, none, before)

-- the term at i has an earlier variable
pub coefficient_more : (ts : List Term) (i var : ℕ) → i < length ts → ((get_or ts i no_term).var ≡ var → ⊥)
    → coefficient (drop i ts) var ≡ coefficient ts var → coefficient (drop (i + 1) ts) var ≡ coefficient ts var
coefficient_more ts i var h other before =
    let here = at_drop_more (λ xs. coefficient xs var) ts i no_term h in
    let next = coefficient-other (get_or ts i no_term) (drop (i + 1) ts) var other in
    omega (arith, ints, here, next, before)

-- the term at i is of a variable numbered at least so
at_least : (ts : List Term) (least i : ℕ) → i < length ts → IsOrderedFrom least ts → least < suc (get_or ts i no_term).var
at_least [] least i h order = absurd (omega (arith, h))
at_least (t ∷ ts) least zero h order = order.0
at_least (t ∷ ts) least (suc i) h order = omega (arith, order.0, at_least ts (suc t.var) i (omega (arith, h)) order.2)

-- no term up to that at i has the variable, where it is of an earlier one
none_up_to : (ts : List Term) (least i var : ℕ) → i < length ts → IsOrderedFrom least ts → (get_or ts i no_term).var < var → coefficient (drop (suc i) ts) var ≡ coefficient ts var
none_up_to [] least i var h order less = absurd (omega (arith, h))
none_up_to (t ∷ ts) least zero var h order less = omega (arith, ints, coefficient-other t ts var (λ e. omega (arith, e, less)))
none_up_to (t ∷ ts) least (suc i) var h order less =
    let later = at_least ts (suc t.var) i (omega (arith, h)) order.2 in
    omega (arith, ints, coefficient-other t ts var (λ e. omega (arith, e, less, later)), none_up_to ts (suc t.var) i var (omega (arith, h)) order.2 less)

pub coefficient_behind : (ts : List Term) (i var : ℕ) → i < length ts → IsOrdered ts → (get_or ts i no_term).var < var → coefficient (drop (i + 1) ts) var ≡ coefficient ts var
coefficient_behind ts i var h order less =
    let next : i + 1 ≡ suc i = omega arith in
    rw next (none_up_to ts 0 i var h order less)

-- behind all terms none has the variable
pub coefficient_at_end : (ts : List Term) (i var : ℕ) → length ts ≤ i → coefficient (drop i ts) var ≡ coefficient ts var → pos 0 ≡ coefficient ts var
coefficient_at_end ts i var h before = subst (λ (us : List Term). coefficient us var ≡ coefficient ts var) (drop_all i ts h) before

-- the term at i, where there is one, is of this or a later variable
pub later_at : (ts : List Term) (i var : ℕ) → i < length ts → (IfSome (slice_get ts i) (λ t. var ≤ t.var)) ↔ (var ≤ (get_or ts i no_term).var)
later_at ts i var h =
    let there = slice_get-get_or ts i no_term h in
    (λ k. subst (λ (o : Option Term). IfSome o (λ t. var ≤ t.var)) there k, λ k. subst (λ (o : Option Term). IfSome o (λ t. var ≤ t.var)) (sym there) k)
