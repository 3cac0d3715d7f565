-- What ordered terms give a variable.
use Rattle.std.proofs.Common.{◌≡◌, sym, ℕ, suc, List, ◌∷◌, arith, pos, ◌+ℤ◌}
use Rattle.std.proofs.lemmas.Int.{ints}
use Rattle.std.proofs.lemmas.Bool.Decides.{nat_tests}
use Rattle.qm_model.specs.declared.row.Term.{Term}
use Rattle.qm_model.specs.Linear.{IsOrderedFrom, coefficient}
use Rattle.qm_model.proofs.Forms.{coefficient-later}

-- the first of ordered terms gives its variable all that it has
coefficient_first : (t : Term) (ts : List Term) (var : ℕ) → IsOrderedFrom var (t ∷ ts) → t.var ≡ var → t.coef ≡ coefficient (t ∷ ts) var
coefficient_first t ts var order e =
    let later = coefficient-later ts (suc t.var) var order.2 (omega arith) in
    let same : coefficient (t ∷ ts) var ≡ t.coef +ℤ coefficient ts var = grind (arith, nat_tests) in
    omega (arith, ints, same, later)

pub coefficient_here : (terms : List Term) (t : Term) (ts : List Term) (var : ℕ) → terms ≡ t ∷ ts → IsOrderedFrom var terms → t.var ≡ var → t.coef ≡ coefficient terms var
coefficient_here terms t ts var is order e = rw is (coefficient_first t ts var (rw is at order) e)

-- all terms are of later variables
coefficient_none : (t : Term) (ts : List Term) (var : ℕ) → IsOrderedFrom var (t ∷ ts) → (t.var ≡ var → ⊥) → pos 0 ≡ coefficient (t ∷ ts) var
coefficient_none t ts var order other =
    let after : IsOrderedFrom (suc var) (t ∷ ts) = (let o = order.0 in omega (arith, o, other), order.1, order.2) in
    sym (coefficient-later (t ∷ ts) (suc var) var after (omega arith))

pub coefficient_absent : (terms : List Term) (t : Term) (ts : List Term) (var : ℕ) → terms ≡ t ∷ ts → IsOrderedFrom var terms → (t.var ≡ var → ⊥) → pos 0 ≡ coefficient terms var
coefficient_absent terms t ts var is order other = rw is (coefficient_none t ts var (rw is at order) other)
