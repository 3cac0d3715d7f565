-- Lists that hold each name once, and the first name that stands a second time.
use Rattle.std.proofs.Common.{◌≡◌, ◌≢◌, suc, Bool, true, false, ◌||◌, eqb, List, [], ◌∷◌, ◌++◌, Some, None, arith, refl, sym, ap, ◌∙◌, subst}
use Rattle.std.specs.Prelude.{All, AllPairs}
use Rattle.std.proofs.lemmas.Bool.{false≢true, or_left}
use Rattle.std.proofs.lemmas.Bool.Decides.{Decides-eqb}
use Rattle.std.proofs.lemmas.List.Elements.{All-cons, All-head, All-nil, All-tail, All-weaker}
use Rattle.std.proofs.lemmas.List.Kept.{AllPairs-cons}
use Rattle.qm_parse.specs.Checks.{Has, has_name, repeated}
use Rattle.qm_parse.specs.NameFaults.{IsFirstSecond}
use Rattle.qm_parse.specs.declared.ast.Named.{Named}
use Rattle.qm_parse.proofs.Repeats.{repeated-here, repeated-later, repeated-nil}

pub AllPairs-nil : {X : Type 0} (R : X → X → Type 0) → AllPairs R []
AllPairs-nil R = λ i j d before inside. absurd (omega arith)

pub AllPairs-head : {X : Type 0} (R : X → X → Type 0) (x : X) (xs : List X) → AllPairs R (x ∷ xs) → All (R x) xs
AllPairs-head R x xs pairs = λ k d inside. pairs 0 (suc k) d (omega arith) (omega arith)

pub AllPairs-tail : {X : Type 0} (R : X → X → Type 0) (x : X) (xs : List X) → AllPairs R (x ∷ xs) → AllPairs R xs
AllPairs-tail R x xs pairs = λ i j d before inside. pairs (suc i) (suc j) d (omega arith) (omega arith)

abbrev pub OtherName : Named → Named → Type 0
OtherName one other = one.name ≢ other.name

abbrev pub Apart : List Named → List Named → Type 0
Apart others list = All (λ named. ¬ Has others named.name) list

not_left : (a b : Bool) → ¬ ((a || b) ≡ true) → ¬ (a ≡ true)
not_left true b not = λ _. not refl
not_left false b not = λ e. false≢true e

not_right : (a b : Bool) → ¬ ((a || b) ≡ true) → ¬ (b ≡ true)
not_right true b not = λ _. not refl
not_right false b not = not

not_either : (a b : Bool) → ¬ (a ≡ true) → ¬ (b ≡ true) → ¬ ((a || b) ≡ true)
not_either true b one other = λ _. one refl
not_either false b one other = other

-- apart from one more: each name is another, and apart from the rest
Apart-rest : (named : Named) (others list : List Named) → Apart (named ∷ others) list → Apart others list
Apart-rest named others list apart =
    All-weaker (λ other. ¬ Has (named ∷ others) other.name) (λ other. ¬ Has others other.name)
    (λ other not. not_right (eqb named.name other.name) (has_name others other.name) not) list apart

Apart-first : (named : Named) (others list : List Named) → Apart (named ∷ others) list → All (OtherName named) list
Apart-first named others list apart =
    All-weaker (λ other. ¬ Has (named ∷ others) other.name) (OtherName named)
    (λ other not same. not_left (eqb named.name other.name) (has_name others other.name) not ((Decides-eqb named.name other.name).1 same)) list apart

pub Apart-cons : (named : Named) (others list : List Named) → All (OtherName named) list → Apart others list → Apart (named ∷ others) list
Apart-cons named others list first rest =
    λ k d inside. not_either (eqb named.name _) (has_name others _) (λ same. first k d inside ((Decides-eqb named.name _).0 same)) (rest k d inside)

once_more : (others : List Named) (named : Named) (list : List Named) (b : Bool) → has_name others named.name ≡ b → repeated others (named ∷ list) ≡ None → (repeated (named ∷ others) list ≡ None → Apart (named ∷ others) list × AllPairs OtherName list) → Apart others (named ∷ list) × AllPairs OtherName (named ∷ list)
once_more others named list true here none rest = let found = repeated-here others named list here in absurd (cc)
once_more others named list false here none rest =
    let more = rest (sym (repeated-later others named list here) ∙ none) in (
      All-cons (λ other. ¬ Has others other.name) named list (λ has. false≢true (sym here ∙ has)) (Apart-rest named others list more.0),
      AllPairs-cons OtherName named list (Apart-first named others list more.0) more.1,
    )

once_if_none : (others list : List Named) → repeated others list ≡ None → Apart others list × AllPairs OtherName list
once_if_none others [] none = (All-nil (λ other. ¬ Has others other.name), AllPairs-nil OtherName)
once_if_none others (named ∷ list) none = once_more others named list (has_name others named.name) refl none (once_if_none (named ∷ others) list)

none_more : (others : List Named) (named : Named) (list : List Named) (b : Bool) → has_name others named.name ≡ b → ¬ Has others named.name → repeated (named ∷ others) list ≡ None → repeated others (named ∷ list) ≡ None
none_more others named list true here not rest = absurd (not here)
none_more others named list false here not rest = repeated-later others named list here ∙ rest

none_if_once : (others list : List Named) → Apart others list → AllPairs OtherName list → repeated others list ≡ None
none_if_once others [] apart pairs = repeated-nil others
none_if_once others (named ∷ list) apart pairs =
    let rest = All-tail (λ other. ¬ Has others other.name) named list apart in
    none_more others named list (has_name others named.name) refl (All-head (λ other. ¬ Has others other.name) named list apart)
    (none_if_once (named ∷ others) list (Apart-cons named others list (AllPairs-head OtherName named list pairs) rest) (AllPairs-tail OtherName named list pairs))

pub once : (list : List Named) → repeated [] list ≡ None → AllPairs OtherName list
once list none = (once_if_none [] list none).1

pub never_repeated : (list : List Named) → AllPairs OtherName list → repeated [] list ≡ None
never_repeated list pairs = none_if_once [] list (λ k d inside has. false≢true has) pairs

-- the first name that stands among others or before it
record IsSecondAfter (others list : List Named) (named : Named) : Type 0 where
  before : List Named
  behind : List Named
  stands : list ≡ before ++ named ∷ behind
  again : (has_name others named.name || has_name before named.name) ≡ true
  apart : Apart others before
  once_before : AllPairs OtherName before

moved : (a b c : Bool) → ((a || b) || c) ≡ true → (b || (a || c)) ≡ true
moved true true c e = refl
moved true false c e = refl
moved false true c e = refl
moved false false c e = e

second_here : (others : List Named) (named : Named) (list : List Named) → has_name others named.name ≡ true → IsSecondAfter others (named ∷ list) named
second_here others named list here = record {
  before = [];
  behind = list;
  stands = refl;
  again = or_left (has_name others named.name) false here;
  apart = All-nil (λ other. ¬ Has others other.name);
  once_before = AllPairs-nil OtherName;
}

second_later : (others : List Named) (named : Named) (list : List Named) (first : Named) → has_name others named.name ≡ false → IsSecondAfter (named ∷ others) list first → IsSecondAfter others (named ∷ list) first
second_later others named list first here rest = record {
  before = named ∷ rest.before;
  behind = rest.behind;
  stands = ap (λ (more : List Named). named ∷ more) rest.stands;
  again = moved (eqb named.name first.name) (has_name others first.name) (has_name rest.before first.name) rest.again;
  apart = All-cons (λ other. ¬ Has others other.name) named rest.before (λ has. false≢true (sym here ∙ has)) (Apart-rest named others rest.before rest.apart);
  once_before = AllPairs-cons OtherName named rest.before (Apart-first named others rest.before rest.apart) rest.once_before;
}

second_more : (others : List Named) (named : Named) (list : List Named) (first : Named) (b : Bool) → has_name others named.name ≡ b → repeated others (named ∷ list) ≡ Some first → (repeated (named ∷ others) list ≡ Some first → IsSecondAfter (named ∷ others) list first) → IsSecondAfter others (named ∷ list) first
second_more others named list first true here found rest =
    let there = repeated-here others named list here in
    let same : named ≡ first = cc in
    subst (IsSecondAfter others (named ∷ list)) same (second_here others named list here)
second_more others named list first false here found rest =
    second_later others named list first here (rest (sym (repeated-later others named list here) ∙ found))

second_after : (others list : List Named) (first : Named) → repeated others list ≡ Some first → IsSecondAfter others list first
second_after others [] first found = let none = repeated-nil others in absurd (cc)
second_after others (named ∷ list) first found = second_more others named list first (has_name others named.name) refl found (second_after (named ∷ others) list first)

pub repeated_first : (list : List Named) (first : Named) → repeated [] list ≡ Some first → IsFirstSecond list first
repeated_first list first found =
    let second = second_after [] list first found in
    record { before = second.before; behind = second.behind; stands = second.stands; again = second.again; once_before = second.once_before }
