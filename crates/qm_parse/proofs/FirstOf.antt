-- What a test finds first in a list, and what it says to find nothing.
use Rattle.std.proofs.Common.{◌≡◌, Bool, true, false, List, [], ◌∷◌, Some, None, refl, sym, ap, ◌∙◌, subst, Decides}
use Rattle.std.specs.Prelude.{All}
use Rattle.std.proofs.lemmas.Bool.{false≢true}
use Rattle.std.proofs.lemmas.List.Elements.{All-cons, All-head, All-nil, All-tail}
use Rattle.qm_parse.specs.Checks.{first_such}
use Rattle.qm_parse.specs.NameFaults.{IsFirst}
use Rattle.qm_parse.specs.declared.ast.Named.{Named}
use Rattle.qm_parse.proofs.FirstSuch.{first_such-here, first_such-later, first_such-nil}

-- one more before the first
pub IsFirst-later : {X : Type 0} (P : X → Type 0) (x : X) (list : List X) (item : X) → ¬ P x → IsFirst P list item → IsFirst P (x ∷ list) item
IsFirst-later P x list item not first = record {
  before = x ∷ first.before;
  behind = first.behind;
  stands = ap (λ (rest : List _). x ∷ rest) first.stands;
  has = first.has;
  none_before = All-cons (λ other. ¬ P other) x first.before not first.none_before;
}

pub IsFirst-here : {X : Type 0} (P : X → Type 0) (x : X) (list : List X) → P x → IsFirst P (x ∷ list) x
IsFirst-here P x list has = record {
  before = [];
  behind = list;
  stands = refl;
  has = has;
  none_before = All-nil (λ other. ¬ P other);
}

abbrev pub Judges : (Named → Bool) → (Named → Type 0) → Type 0
Judges test P = (named : Named) → Decides (test named) (P named)

abbrev pub NoneHas : (Named → Type 0) → List Named → Type 0
NoneHas P list = All (λ other. ¬ P other) list

none_more : (test : Named → Bool) (P : Named → Type 0) → Judges test P → (named : Named) (list : List Named) (b : Bool) → test named ≡ b → first_such test (named ∷ list) ≡ None → (first_such test list ≡ None → NoneHas P list) → NoneHas P (named ∷ list)
none_more test P judges named list true here none rest =
    let found = first_such-here test named list here in absurd (cc)
none_more test P judges named list false here none rest =
    All-cons (λ other. ¬ P other) named list (λ has. false≢true (sym here ∙ (judges named).1 has)) (rest (sym (first_such-later test named list here) ∙ none))

-- nothing is found where none has the property
pub none_has : (test : Named → Bool) (P : Named → Type 0) → Judges test P → (list : List Named) → first_such test list ≡ None → NoneHas P list
none_has test P judges [] none = All-nil (λ other. ¬ P other)
none_has test P judges (named ∷ list) none = none_more test P judges named list (test named) refl none (none_has test P judges list)

none_more_found : (test : Named → Bool) (P : Named → Type 0) → Judges test P → (named : Named) (list : List Named) (b : Bool) → test named ≡ b → ¬ P named → first_such test list ≡ None → first_such test (named ∷ list) ≡ None
none_more_found test P judges named list true here not rest = absurd (not ((judges named).0 here))
none_more_found test P judges named list false here not rest = first_such-later test named list here ∙ rest

pub none_found : (test : Named → Bool) (P : Named → Type 0) → Judges test P → (list : List Named) → NoneHas P list → first_such test list ≡ None
none_found test P judges [] none = first_such-nil test
none_found test P judges (named ∷ list) none =
    none_more_found test P judges named list (test named) refl (All-head (λ other. ¬ P other) named list none)
    (none_found test P judges list (All-tail (λ other. ¬ P other) named list none))

first_more : (test : Named → Bool) (P : Named → Type 0) → Judges test P → (named : Named) (list : List Named) (first : Named) (b : Bool) → test named ≡ b → first_such test (named ∷ list) ≡ Some first → (first_such test list ≡ Some first → IsFirst P list first) → IsFirst P (named ∷ list) first
first_more test P judges named list first true here found rest =
    let there = first_such-here test named list here in
    let same : named ≡ first = cc in
    subst (IsFirst P (named ∷ list)) same (IsFirst-here P named list ((judges named).0 here))
first_more test P judges named list first false here found rest =
    IsFirst-later P named list first (λ has. false≢true (sym here ∙ (judges named).1 has)) (rest (sym (first_such-later test named list here) ∙ found))

-- what is found is the first that has the property
pub found_first : (test : Named → Bool) (P : Named → Type 0) → Judges test P → (list : List Named) (first : Named) → first_such test list ≡ Some first → IsFirst P list first
found_first test P judges [] first found = let none = first_such-nil test in absurd (cc)
found_first test P judges (named ∷ list) first found = first_more test P judges named list first (test named) refl found (found_first test P judges list first)
