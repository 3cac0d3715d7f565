-- The number of the variable of a term in game order is at least that of the term's place.
use Rattle.std.proofs.Common.{ℕ, zero, suc, ◌+◌, ◌-◌, ◌<◌, ◌≤◌, List, [], ◌∷◌, length, get_or, arith}
use Rattle.qm_model.specs.declared.row.Term.{Term}
use Rattle.qm_model.specs.Linear.{IsOrderedFrom}

pub place_below : (terms : List Term) (least i : ℕ) (d : Term) → IsOrderedFrom least terms → i < length terms → least + i ≤ (get_or terms i d).var
place_below [] least i d ordered inside = omega arith
place_below (term ∷ terms) least zero d ordered inside = let front : least < suc term.var = ordered.0 in omega arith
place_below (term ∷ terms) least (suc i) d ordered inside =
    let front : least < suc term.var = ordered.0 in
    let rest : suc term.var + i ≤ (get_or terms i d).var = place_below terms (suc term.var) i d ordered.2 (omega arith) in
    omega arith

-- terms in game order are at most as many as there are numbers up to the last one's
pub few_terms : (n : ℕ) (terms : List Term) (d : Term) → IsOrderedFrom 0 terms → (get_or terms (length terms - 1) d).var < n → length terms ≤ n
few_terms n [] d ordered fits = omega arith
few_terms n (term ∷ terms) d ordered fits =
    let place : 0 + (length (term ∷ terms) - 1) ≤ (get_or (term ∷ terms) (length (term ∷ terms) - 1) d).var =
    place_below (term ∷ terms) 0 (length (term ∷ terms) - 1) d ordered (omega arith) in
    omega arith
