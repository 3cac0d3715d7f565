-- Tables of places, as they are filled.
use Rattle.std.proofs.Common.{◌≡◌, ◌≢◌, ℕ, zero, suc, ◌+◌, ◌<◌, ◌≤◌, Bool, true, false, cond, eqb, List, [], ◌∷◌, ◌++◌, length, take, map, get_or, Option, Some, None, refl, sym, ap, ◌∙◌, subst, length-take, arith}
use Rattle.std.specs.Prelude.{All, MatchOption, slice_get, slice_index_or}
use Rattle.std.specs.Option.{option_map}
use Rattle.std.proofs.lemmas.Bool.{both_ways}
use Rattle.std.proofs.lemmas.Bool.Decides.{Decides-eqb}
use Rattle.std.proofs.lemmas.List.{map-append, take_all, take_more}
use Rattle.std.proofs.lemmas.List.Elements.{All-nil, All-push}
use Rattle.std.proofs.lemmas.Option.{none-some, slice_get-map}
use Rattle.qm_parse.specs.declared.ast.Named.{Named}
use Rattle.qm_normal.specs.PlaceSteps.{IsPlacesOf, StandsAt, place_in}
use Rattle.qm_normal.specs.declared.places.Places.{Places}

abbrev number_of : Named → ℕ
number_of named = named.name

nothing_at : {X : Type 0} (d : X) (n : ℕ) → get_or [] n d ≡ d
nothing_at d zero = refl
nothing_at d (suc n) = refl

-- an empty table has the places of an empty list
pub placed-none : (places : Places) → places.places ≡ [] → IsPlacesOf [] places
placed-none places e name =
    let none : place_in places name ≡ None = ap (λ (table : List (Option ℕ)). slice_index_or table name None) e ∙ nothing_at None name in
    subst (λ (o : Option ℕ). MatchOption o (All (λ (named : Named). named.name ≢ name) []) (StandsAt [] name)) (sym none) (All-nil (λ (named : Named). named.name ≢ name))

stands_more : (xs ys : List ℕ) (place name : ℕ) → slice_get xs place ≡ Some name → slice_get (xs ++ ys) place ≡ Some name
stands_more [] ys place name h = absurd (none-some name h)
stands_more (x ∷ xs) ys zero name h = h
stands_more (x ∷ xs) ys (suc place) name h = stands_more xs ys place name h

stands_last : (list : List Named) (named : Named) → slice_get (list ++ named ∷ []) (length list) ≡ Some named
stands_last [] named = refl
stands_last (first ∷ list) named = stands_last list named

placed : (order : List Named) (named : Named) (place name : ℕ) (old : Option ℕ) (b : Bool) → eqb named.name name ≡ b → place ≡ length order
    → MatchOption old (All (λ (other : Named). other.name ≢ name) order) (StandsAt order name)
    → MatchOption (cond b (Some place) old) (All (λ (other : Named). other.name ≢ name) (order ++ named ∷ [])) (StandsAt (order ++ named ∷ []) name)
placed order named place name old true e at so_far =
    let list = order ++ named ∷ [] in
    slice_get-map number_of list place ∙ ap (λ (k : ℕ). option_map number_of (slice_get list k)) at ∙ ap (option_map number_of) (stands_last order named)
    ∙ ap (λ (n : ℕ). Some n) ((Decides-eqb named.name name).0 e)
placed order named place name None false e at so_far =
    All-push (λ (other : Named). other.name ≢ name) order named so_far (λ same. both_ways (eqb named.name name) e ((Decides-eqb named.name name).1 same))
placed order named place name (Some there) false e at so_far =
    ap (λ (names : List ℕ). slice_get names there) (map-append number_of order (named ∷ [])) ∙ stands_more (map number_of order) (map number_of (named ∷ [])) there name so_far

-- one name more
pub placed-more : (order : List Named) (i : ℕ) (d : Named) (old new : Places) → i < length order
    → ((other : ℕ) → place_in new other ≡ cond (eqb (get_or order i d).name other) (Some i) (place_in old other))
    → IsPlacesOf (take i order) old → IsPlacesOf (take (i + 1) order) new
placed-more order i d old new inside put so_far name =
    let named = get_or order i d in
    let at : i ≡ length (take i order) = omega (arith, inside, length-take i order) in
    let here = placed (take i order) named i name (place_in old name) (eqb named.name name) refl at (so_far name) in
    subst (λ (list : List Named). MatchOption (place_in new name) (All (λ (other : Named). other.name ≢ name) list) (StandsAt list name)) (sym (take_more order i d inside))
    (subst (λ (o : Option ℕ). MatchOption o (All (λ (other : Named). other.name ≢ name) (take i order ++ named ∷ [])) (StandsAt (take i order ++ named ∷ []) name)) (sym (put name)) here)

-- all names
pub placed-all : (order : List Named) (i : ℕ) (places : Places) → length order ≤ i → IsPlacesOf (take i order) places → IsPlacesOf order places
placed-all order i places end so_far = subst (λ (list : List Named). IsPlacesOf list places) (take_all i order end) so_far
