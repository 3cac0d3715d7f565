-- Negated terms stand in the same order.
use Rattle.std.proofs.Common.{◌≡◌, ◌≢◌, ℕ, suc, ◌≤◌, List, [], ◌∷◌, length, map, take, sym, ap, ◌∙◌, subst, arith, ℤ, pos, neg_ℤ}
use Rattle.std.proofs.lemmas.Int.{ints}
use Rattle.std.proofs.lemmas.List.{take_all}
use Rattle.qm_model.specs.declared.row.Term.{Term}
use Rattle.qm_model.specs.Linear.{IsOrderedFrom}
use Rattle.qm_normal.specs.Rows.{negated_term}

negated_some : (k : ℤ) → k ≢ pos 0 → neg_ℤ k ≢ pos 0
negated_some k some e = some (omega (arith, ints, e))

pub negated_ordered : (terms : List Term) (least : ℕ) → IsOrderedFrom least terms → IsOrderedFrom least (map negated_term terms)
negated_ordered [] least ordered = tt
negated_ordered (term ∷ terms) least ordered = (ordered.0, negated_some term.coef ordered.1, negated_ordered terms (suc term.var) ordered.2)

pub all_negated : (terms : List Term) (i : ℕ) (items : List Term) → length terms ≤ i → items ≡ map negated_term (take i terms) → items ≡ map negated_term terms
all_negated terms i items end so_far = so_far ∙ ap (map negated_term) (take_all i terms end)

pub items_ordered : (terms : List Term) (i : ℕ) (items : List Term) → length terms ≤ i → items ≡ map negated_term (take i terms) → IsOrderedFrom 0 terms → IsOrderedFrom 0 items
items_ordered terms i items end so_far ordered =
    subst (IsOrderedFrom 0) (sym (all_negated terms i items end so_far)) (negated_ordered terms 0 ordered)
