-- Where a term adds to the sums of the variables: at one place, or nowhere.
use Rattle.std.proofs.Common.{◌≡◌, ◌≢◌, ℕ, zero, suc, ◌<◌, Bool, true, false, List, [], ◌∷◌, length, map, get_or, Option, Some, None, refl, sym, ap, ◌∙◌, eq-eqb, ne_eqb, arith}
use Rattle.std.specs.Prelude.{All, slice_get, ◌==◌}
use Rattle.std.specs.Option.{option_and_then}
use Rattle.std.proofs.lemmas.List.{length-map, get_or-map}
use Rattle.std.proofs.lemmas.List.Elements.{All-head, All-tail}
use Rattle.std.proofs.lemmas.Option.{MatchOption-at_none, MatchOption-at_some, get_or_from_slice_get, none-some, same_Some, slice_get_within}
use Rattle.qm_parse.specs.declared.ast.AstTerm.{AstTerm}
use Rattle.qm_parse.specs.declared.ast.Named.{Named}
use Rattle.qm_normal.specs.PlaceSteps.{AreApart, IsPlacesOf, StandsAt, place_in}
use Rattle.qm_normal.specs.Rows.{is_of}
use Rattle.qm_normal.specs.declared.places.Places.{Places}

-- the term adds to no variable of the list
abbrev pub IsPassed : AstTerm → List Named → Type 0
IsPassed term [] = Unit {0}
IsPassed term (named ∷ order) = (is_of named.name term ≡ false) × IsPassed term order

-- it adds to the variable at this place alone
abbrev pub AddsAt : AstTerm → List Named → ℕ → Type 0
AddsAt term [] place = ⊥
AddsAt term (named ∷ order) zero = (is_of named.name term ≡ true) × IsPassed term order
AddsAt term (named ∷ order) (suc place) = (is_of named.name term ≡ false) × AddsAt term order place

abbrev is_called : ℕ → Option ℕ → Bool
is_called name o = elim o [ None ↦ false | Some other ↦ other == name ]

abbrev number_of : Named → ℕ
number_of named = named.name

passed-constant : (term : AstTerm) → term.name ≡ None → (order : List Named) → IsPassed term order
passed-constant term none [] = tt
passed-constant term none (named ∷ order) = (ap (is_called named.name) none, passed-constant term none order)

passed-lacking : (term : AstTerm) (name : ℕ) → term.name ≡ Some name → (order : List Named) → All (λ (named : Named). named.name ≢ name) order → IsPassed term order
passed-lacking term name is [] lacks = tt
passed-lacking term name is (named ∷ order) lacks =
    let other = All-head (λ (n : Named). n.name ≢ name) named order lacks in (
      ap (is_called named.name) is ∙ ne_eqb name named.name (λ e. other (sym e)),
      passed-lacking term name is order (All-tail (λ (n : Named). n.name ≢ name) named order lacks),
    )

adds-standing : (term : AstTerm) (name : ℕ) → term.name ≡ Some name → (order : List Named) (place : ℕ) → AreApart order → slice_get (map number_of order) place ≡ Some name → AddsAt term order place
adds-standing term name is [] place apart at = absurd (none-some name at)
adds-standing term name is (named ∷ order) zero apart at =
    let same : named.name ≡ name = same_Some named.name name at in
    let lacks : All (λ (n : Named). n.name ≢ name) order = λ k d inside e. apart 0 (suc k) d (omega arith) (omega (arith, inside)) (same ∙ sym e) in
    (ap (is_called named.name) is ∙ eq-eqb name named.name (sym same), passed-lacking term name is order lacks)
adds-standing term name is (named ∷ order) (suc place) apart at =
    let inside : place < length order = omega (arith, slice_get_within (map number_of order) place name at, length-map order number_of) in
    let read : (get_or order place named).name ≡ name = sym (get_or-map number_of order place named name inside) ∙ get_or_from_slice_get (map number_of order) place name name at in
    let other : named.name ≢ name = λ e. apart 0 (suc place) named (omega arith) (omega (arith, inside)) (e ∙ sym read) in
    let later : AreApart order = λ i j d less below. apart (suc i) (suc j) d (omega (arith, less)) (omega (arith, below)) in
    (ap (is_called named.name) is ∙ ne_eqb name named.name (λ e. other (sym e)), adds-standing term name is order place later at)

-- a place in the list
pub adds_inside : (term : AstTerm) (order : List Named) (place : ℕ) → AddsAt term order place → place < length order
adds_inside term [] place adds = absurd adds
adds_inside term (named ∷ order) zero adds = omega arith
adds_inside term (named ∷ order) (suc place) adds = omega (arith, adds_inside term order place adds.1)

adds-called : (order : List Named) (places : Places) (term : AstTerm) (place : ℕ) (o : Option ℕ) → term.name ≡ o → IsPlacesOf order places → AreApart order → Some place ≡ option_and_then (place_in places) o → AddsAt term order place
adds-called order places term place None is placed apart found = absurd (none-some place (sym found))
adds-called order places term place (Some name) is placed apart found =
    adds-standing term name is order place apart
    (MatchOption-at_some (All (λ (named : Named). named.name ≢ name) order) (StandsAt order name) place (sym found) (placed name))

-- where its name has a place
pub adds-found : (order : List Named) (places : Places) (term : AstTerm) (place : ℕ) → IsPlacesOf order places → AreApart order → Some place ≡ option_and_then (place_in places) term.name → AddsAt term order place
adds-found order places term place placed apart found = adds-called order places term place term.name refl placed apart found

passed-called : (order : List Named) (places : Places) (term : AstTerm) (o : Option ℕ) → term.name ≡ o → IsPlacesOf order places → None ≡ option_and_then (place_in places) o → IsPassed term order
passed-called order places term None is placed found = passed-constant term is order
passed-called order places term (Some name) is placed found =
    passed-lacking term name is order (MatchOption-at_none (All (λ (named : Named). named.name ≢ name) order) (StandsAt order name) (sym found) (placed name))

-- where its name has none, or it is a constant
pub passed-found : (order : List Named) (places : Places) (term : AstTerm) → IsPlacesOf order places → None ≡ option_and_then (place_in places) term.name → IsPassed term order
passed-found order places term placed found = passed-called order places term term.name refl placed found
