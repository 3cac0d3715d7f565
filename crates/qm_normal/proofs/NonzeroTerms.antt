-- Coefficients that aren't 0, as terms: one more, and their order.
use Rattle.std.proofs.Common.{◌≡◌, ◌≢◌, ℕ, suc, ◌+◌, ◌<◌, ◌≤◌, ◌^◌, Bool, true, false, cond, List, [], ◌∷◌, ◌++◌, length, drop, get_or, map, refl, sym, ap, ◌∙◌, subst, append_assoc, add-one, arith, ℤ, pos, unsigned_abs}
use Rattle.std.specs.Prelude.{All}
use Rattle.std.specs.Ordering.{int_eq}
use Rattle.std.proofs.lemmas.Bool.Decides.{Decides-int_eq}
use Rattle.std.proofs.lemmas.Bool.{false≢true, false_from_ne_true}
use Rattle.std.proofs.lemmas.List.{append-nil, at_drop_more, at_drop_all}
use Rattle.std.proofs.lemmas.List.Elements.{All-cons, All-head, All-nil, All-tail}
use Rattle.qm_math.specs.Fraction.{Fraction}
use Rattle.qm_model.specs.declared.row.Term.{Term}
use Rattle.qm_model.specs.Linear.{IsOrderedFrom}
use Rattle.qm_normal.specs.Rows.{nonzero_from, times}
use Rattle.qm_normal.specs.RowSteps.{HasNarrowTerms}

abbrev in_front : ℕ → ℤ → List ℤ → Bool → List Term
in_front n k ks is_zero = cond is_zero (nonzero_from (suc n) ks) (record { var = n; coef = k } ∷ nonzero_from (suc n) ks)

nonzero-cons : (n : ℕ) (k : ℤ) (ks : List ℤ) → nonzero_from n (k ∷ ks) ≡ in_front n k ks (int_eq k (pos 0))
unfolding nonzero_from
nonzero-cons n k ks = refl

nonzero-nil : (n : ℕ) → nonzero_from n [] ≡ []
unfolding nonzero_from
nonzero-nil n = refl

-- one coefficient alone
pub nonzero-zero : (n : ℕ) (k : ℤ) → k ≡ pos 0 → nonzero_from n (k ∷ []) ≡ []
nonzero-zero n k is =
    nonzero-cons n k [] ∙ ap (in_front n k []) ((Decides-int_eq k (pos 0)).1 is) ∙ nonzero-nil (suc n)

pub nonzero-other : (n : ℕ) (k : ℤ) → k ≢ pos 0 → nonzero_from n (k ∷ []) ≡ record { var = n; coef = k } ∷ []
nonzero-other n k other =
    nonzero-cons n k [] ∙ ap (in_front n k []) (false_from_ne_true (int_eq k (pos 0)) (λ e. other ((Decides-int_eq k (pos 0)).0 e)))
    ∙ ap (λ (terms : List Term). record { var = n; coef = k } ∷ terms) (nonzero-nil (suc n))

front_either : (n : ℕ) (k : ℤ) (ks : List ℤ) (b : Bool) → in_front n k ks b ≡ in_front n k [] b ++ nonzero_from (suc n) ks
front_either n k ks true = ap (λ (terms : List Term). terms ++ nonzero_from (suc n) ks) (sym (nonzero-nil (suc n)))
front_either n k ks false = ap (λ (terms : List Term). (record { var = n; coef = k } ∷ terms) ++ nonzero_from (suc n) ks) (sym (nonzero-nil (suc n)))

-- the first coefficient apart
nonzero-first : (n : ℕ) (k : ℤ) (ks : List ℤ) → nonzero_from n (k ∷ ks) ≡ nonzero_from n (k ∷ []) ++ nonzero_from (suc n) ks
nonzero-first n k ks =
    nonzero-cons n k ks ∙ front_either n k ks (int_eq k (pos 0)) ∙ ap (λ (terms : List Term). terms ++ nonzero_from (suc n) ks) (sym (nonzero-cons n k []))

-- one turn of the loop over the sums
pub terms_more : (d : ℕ) (sums : List Fraction) (i : ℕ) (sum : Fraction) (items new whole : List Term) → i < length sums → sum ≡ get_or sums i sum → new ≡ items ++ nonzero_from i (times d sum ∷ [])
    → items ++ nonzero_from i (map (times d) (drop i sums)) ≡ whole → new ++ nonzero_from (i + 1) (map (times d) (drop (i + 1) sums)) ≡ whole
terms_more d sums i sum items new whole inside is made so_far =
    let rest = drop (i + 1) sums in
    let later = nonzero_from (suc i) (map (times d) rest) in
    let here : nonzero_from i (map (times d) (drop i sums)) ≡ nonzero_from i (times d sum ∷ []) ++ later =
    at_drop_more (λ (list : List Fraction). nonzero_from i (map (times d) list)) sums i sum inside
    ∙ ap (λ (first : Fraction). nonzero_from i (times d first ∷ map (times d) rest)) (sym is) ∙ nonzero-first i (times d sum) (map (times d) rest) in
    ap (λ (n : ℕ). new ++ nonzero_from n (map (times d) rest)) (add-one i)
    ∙ ap (λ (terms : List Term). terms ++ later) made ∙ append_assoc items (nonzero_from i (times d sum ∷ [])) later
    ∙ ap (λ (terms : List Term). items ++ terms) (sym here) ∙ so_far

-- at the end the items are all of them
pub terms_all : (d : ℕ) (sums : List Fraction) (i : ℕ) (items : List Term) → length sums ≤ i → items ++ nonzero_from i (map (times d) (drop i sums)) ≡ nonzero_from 0 (map (times d) sums) → items ≡ nonzero_from 0 (map (times d) sums)
terms_all d sums i items end so_far =
    sym (append-nil items) ∙ ap (λ (terms : List Term). items ++ terms) (sym (at_drop_all (λ (list : List Fraction). nonzero_from i (map (times d) list)) sums i end ∙ nonzero-nil i)) ∙ so_far

ordered_either : (n least : ℕ) (k : ℤ) (ks : List ℤ) (b : Bool) → int_eq k (pos 0) ≡ b → least ≤ n → ((lowest : ℕ) → lowest ≤ suc n → IsOrderedFrom lowest (nonzero_from (suc n) ks)) → IsOrderedFrom least (in_front n k ks b)
ordered_either n least k ks true e le rest = rest least (omega (arith, le))
ordered_either n least k ks false e le rest =
    (omega (arith, le), λ same. false≢true (sym e ∙ (Decides-int_eq k (pos 0)).1 same), rest (suc n) (omega arith))

-- the terms stand in order
pub nonzero_ordered : (ks : List ℤ) (n least : ℕ) → least ≤ n → IsOrderedFrom least (nonzero_from n ks)
nonzero_ordered [] n least le = subst (IsOrderedFrom least) (sym (nonzero-nil n)) tt
nonzero_ordered (k ∷ ks) n least le =
    subst (IsOrderedFrom least) (sym (nonzero-cons n k ks)) (ordered_either n least k ks (int_eq k (pos 0)) refl le (λ lowest below. nonzero_ordered ks (suc n) lowest below))

pub items_ordered : (d : ℕ) (sums : List Fraction) (i : ℕ) (items : List Term) → length sums ≤ i → items ++ nonzero_from i (map (times d) (drop i sums)) ≡ nonzero_from 0 (map (times d) sums) → IsOrderedFrom 0 items
items_ordered d sums i items end so_far =
    subst (IsOrderedFrom 0) (sym (terms_all d sums i items end so_far)) (nonzero_ordered (map (times d) sums) 0 0 (omega arith))

narrow_either : (n : ℕ) (k : ℤ) (ks : List ℤ) (b : Bool) → unsigned_abs k < 2 ^ 127 → HasNarrowTerms (nonzero_from (suc n) ks) → HasNarrowTerms (in_front n k ks b)
narrow_either n k ks true small rest = rest
narrow_either n k ks false small rest = All-cons (λ (term : Term). unsigned_abs term.coef < 2 ^ 127) (record { var = n; coef = k }) (nonzero_from (suc n) ks) small rest

-- terms of numbers of 127 bits
pub narrow_terms : (d n : ℕ) (sums : List Fraction) → All (λ sum. unsigned_abs (times d sum) < 2 ^ 127) sums → HasNarrowTerms (nonzero_from n (map (times d) sums))
narrow_terms d n [] small = subst HasNarrowTerms (sym (nonzero-nil n)) (All-nil (λ (term : Term). unsigned_abs term.coef < 2 ^ 127))
narrow_terms d n (sum ∷ sums) small =
    let Small : Fraction → Type 0 = λ s. unsigned_abs (times d s) < 2 ^ 127 in
    subst HasNarrowTerms (sym (nonzero-cons n (times d sum) (map (times d) sums)))
    (narrow_either n (times d sum) (map (times d) sums) (int_eq (times d sum) (pos 0)) (All-head Small sum sums small) (narrow_terms d (suc n) sums (All-tail Small sum sums small)))
