-- The first bound without a number, in a loop over bounds.
use Rattle.std.proofs.Common.{◌≡◌, ℕ, ◌+◌, ◌<◌, ◌≤◌, Bool, true, false, List, [], ◌∷◌, drop, length, get_or, Option, Some, None, refl, sym, ap, ◌∙◌, Decides}
use Rattle.std.specs.Prelude.{All}
use Rattle.std.specs.List.{filter}
use Rattle.std.specs.Option.{is_some}
use Rattle.std.proofs.lemmas.Bool.{false≢true}
use Rattle.std.proofs.lemmas.List.Elements.{All-cons, All-head, All-nil, All-tail}
use Rattle.std.proofs.lemmas.List.{at_drop_more, at_drop_all}
use Rattle.qm_parse.specs.Checks.{bound_use, bound_uses, first_such, is_infinite}
use Rattle.qm_parse.specs.NameFaults.{IsFirst}
use Rattle.qm_parse.specs.declared.ast.AstBound.{AstBound}
use Rattle.qm_parse.specs.declared.ast.Named.{Named}
use Rattle.qm_parse.proofs.FirstOf.{IsFirst-here, IsFirst-later}

abbrev pub first_infinite : List AstBound → Option Named
first_infinite bounds = first_such (λ named. true) (bound_uses (filter is_infinite bounds))

pub first_infinite-here : (bound : AstBound) (bounds : List AstBound) → is_infinite bound ≡ true → first_infinite (bound ∷ bounds) ≡ Some (bound_use bound)
unfolding first_such
first_infinite-here bound bounds infinite = rw infinite refl

pub first_infinite-later : (bound : AstBound) (bounds : List AstBound) → is_infinite bound ≡ false → first_infinite (bound ∷ bounds) ≡ first_infinite bounds
first_infinite-later bound bounds finite = rw finite refl

first_infinite-nil : first_infinite [] ≡ None
unfolding first_such
first_infinite-nil = refl

no_value : {A : Type 0} (value : Option A) → is_some value ≡ false → elim value as (λ _. Bool) [ None ↦ true | Some _ ↦ false ] ≡ true
no_value None e = refl
no_value (Some value) e = absurd (false≢true (sym e))

pub infinite_here : (bounds : List AstBound) (i : ℕ) (bound : AstBound) (answer : Option Named) → i < length bounds → bound ≡ get_or bounds i bound → is_some bound.value ≡ false → first_infinite (drop i bounds) ≡ answer → Some (bound_use bound) ≡ answer
infinite_here bounds i bound answer inside at infinite rest =
    sym (first_infinite-here bound (drop (i + 1) bounds) (no_value bound.value infinite))
    ∙ ap (λ (first : AstBound). first_infinite (first ∷ drop (i + 1) bounds)) at ∙ sym (at_drop_more first_infinite bounds i bound inside) ∙ rest

pub infinite_nowhere : (bounds : List AstBound) (i : ℕ) (answer : Option Named) → length bounds ≤ i → first_infinite (drop i bounds) ≡ answer → None ≡ answer
infinite_nowhere bounds i answer outside rest = sym first_infinite-nil ∙ sym (at_drop_all first_infinite bounds i outside) ∙ rest

abbrev lacks : {A : Type 0} → Option A → Bool
lacks value = elim value [ None ↦ true | Some _ ↦ false ]

Decides-lacks : {A : Type 0} (value : Option A) → Decides (lacks value) (value ≡ None)
Decides-lacks None = (λ _. refl, λ _. refl)
Decides-lacks (Some value) = (λ e. absurd (false≢true e), λ e. absurd (cc))

abbrev pub HasNoValue : AstBound → Type 0
HasNoValue bound = bound.value ≡ None

pub judged : (bound : AstBound) → Decides (is_infinite bound) (HasNoValue bound)
judged bound = Decides-lacks bound.value

abbrev IsFirstInfinite : List AstBound → Named → Type 0
IsFirstInfinite bounds named = (bound : AstBound) × (named ≡ bound_use bound) × IsFirst HasNoValue bounds bound

none_more : (bound : AstBound) (bounds : List AstBound) (b : Bool) → is_infinite bound ≡ b → first_infinite (bound ∷ bounds) ≡ None → (first_infinite bounds ≡ None → All (λ other. ¬ HasNoValue other) bounds) → All (λ other. ¬ HasNoValue other) (bound ∷ bounds)
none_more bound bounds true here none rest = let found = first_infinite-here bound bounds here in absurd (cc)
none_more bound bounds false here none rest =
    All-cons (λ other. ¬ HasNoValue other) bound bounds (λ has. false≢true (sym here ∙ (judged bound).1 has)) (rest (sym (first_infinite-later bound bounds here) ∙ none))

pub all_finite : (bounds : List AstBound) → first_infinite bounds ≡ None → All (λ other. ¬ HasNoValue other) bounds
all_finite [] none = All-nil (λ other. ¬ HasNoValue other)
all_finite (bound ∷ bounds) none = none_more bound bounds (is_infinite bound) refl none (all_finite bounds)

skipped : (bound : AstBound) (bounds : List AstBound) (b : Bool) → is_infinite bound ≡ b → ¬ HasNoValue bound → first_infinite bounds ≡ None → first_infinite (bound ∷ bounds) ≡ None
skipped bound bounds true here not rest = absurd (not ((judged bound).0 here))
skipped bound bounds false here not rest = first_infinite-later bound bounds here ∙ rest

pub none_infinite : (bounds : List AstBound) → All (λ other. ¬ HasNoValue other) bounds → first_infinite bounds ≡ None
none_infinite [] none = first_infinite-nil
none_infinite (bound ∷ bounds) none =
    skipped bound bounds (is_infinite bound) refl (All-head (λ other. ¬ HasNoValue other) bound bounds none) (none_infinite bounds (All-tail (λ other. ¬ HasNoValue other) bound bounds none))

infinite_more : (bound : AstBound) (bounds : List AstBound) (named : Named) (b : Bool) → is_infinite bound ≡ b → first_infinite (bound ∷ bounds) ≡ Some named → (first_infinite bounds ≡ Some named → IsFirstInfinite bounds named) → IsFirstInfinite (bound ∷ bounds) named
infinite_more bound bounds named true here found rest =
    let there = first_infinite-here bound bounds here in
    let same : named ≡ bound_use bound = cc in
    (bound, same, IsFirst-here HasNoValue bound bounds ((judged bound).0 here))
infinite_more bound bounds named false here found rest =
    let more = rest (sym (first_infinite-later bound bounds here) ∙ found) in
    (more.0, more.1, IsFirst-later HasNoValue bound bounds more.0 (λ has. false≢true (sym here ∙ (judged bound).1 has)) more.2)

pub infinite_first : (bounds : List AstBound) (named : Named) → first_infinite bounds ≡ Some named → IsFirstInfinite bounds named
infinite_first [] named found = let none = first_infinite-nil in absurd (cc)
infinite_first (bound ∷ bounds) named found = infinite_more bound bounds named (is_infinite bound) refl found (infinite_first bounds named)
