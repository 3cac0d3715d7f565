-- The first in the text of those that a test accepts.
use Rattle.std.proofs.Common.{◌≡◌, Bool, true, false, List, [], ◌∷◌, Option, Some, None, refl, sym, ap, ◌∙◌, subst}
use Rattle.std.specs.Prelude.{All}
use Rattle.std.specs.List.{filter}
use Rattle.std.proofs.lemmas.Bool.{false≢true}
use Rattle.std.proofs.lemmas.List.Elements.{All-append, All-cons, All-head, All-nil, All-tail, All-weaker}
use Rattle.qm_parse.specs.Checks.{earlier, earliest, is_before}
use Rattle.qm_parse.specs.NameFaults.{IsEarliest}
use Rattle.qm_parse.specs.declared.ast.Named.{Named}
use Rattle.qm_parse.proofs.Earliest.{earlier-same, is_before-not, is_before-trans}
use Rattle.qm_parse.proofs.FirstOf.{Judges, NoneHas}

pub earlier-before : (one other : Named) → is_before other.at one.at ≡ true → earlier one (Some other) ≡ other
unfolding earlier
earlier-before one other before = rw before refl

pub earlier-stays : (one other : Named) → is_before other.at one.at ≡ false → earlier one (Some other) ≡ one
unfolding earlier
earlier-stays one other not = rw not refl

pub earliest-here : (test : Named → Bool) (named : Named) (list : List Named) → test named ≡ true → earliest (filter test (named ∷ list)) ≡ Some (earlier named (earliest (filter test list)))
unfolding earliest
earliest-here test named list here = rw here refl

pub earliest-later : (test : Named → Bool) (named : Named) (list : List Named) → test named ≡ false → earliest (filter test (named ∷ list)) ≡ earliest (filter test list)
earliest-later test named list here = rw here refl

earliest-nil : earliest [] ≡ None
unfolding earliest
earliest-nil = refl

-- what the answer says of the list
abbrev pub Describes : (Named → Type 0) → List Named → Option Named → Type 0
Describes P list None = NoneHas P list
Describes P list (Some first) = IsEarliest P list first

pub was_false : (b : Bool) → ¬ (b ≡ true) → b ≡ false
was_false true not = absurd (not refl)
was_false false not = refl

passed : (P : Named → Type 0) (named : Named) (list : List Named) → ¬ P named → (answer : Option Named) → Describes P list answer → Describes P (named ∷ list) answer
passed P named list not None none = All-cons (λ other. ¬ P other) named list not none
passed P named list not (Some first) rest = record {
  before = named ∷ rest.before;
  behind = rest.behind;
  stands = ap (λ (more : List Named). named ∷ more) rest.stands;
  has = rest.has;
  later = All-cons (λ other. P other → is_before first.at other.at ≡ true) named rest.before (λ has. absurd (not has)) rest.later;
  not_earlier = rest.not_earlier;
}

abbrev pub NotEarlier : (Named → Type 0) → Named → Named → Type 0
NotEarlier P named other = P other → ¬ (is_before other.at named.at ≡ true)

alone : (P : Named → Type 0) (named : Named) (list : List Named) → P named → All (NotEarlier P named) list → IsEarliest P (named ∷ list) named
alone P named list has rest = record {
  before = [];
  behind = list;
  stands = refl;
  has = has;
  later = All-nil (λ other. P other → is_before named.at other.at ≡ true);
  not_earlier = rest;
}

-- none of a list is earlier, where the earliest of it isn't
none_earlier : (P : Named → Type 0) (named : Named) (list : List Named) (first : Named) → is_before first.at named.at ≡ false → IsEarliest P list first → All (NotEarlier P named) list
none_earlier P named list first not rest =
    subst (All (NotEarlier P named)) (sym rest.stands)
    (All-append (NotEarlier P named) rest.before (first ∷ rest.behind)
    (All-weaker (λ other. P other → is_before first.at other.at ≡ true) (NotEarlier P named)
    (λ other later has early. false≢true (sym not ∙ is_before-trans first.at other.at named.at (later has) early)) rest.before rest.later)
    (All-cons (NotEarlier P named) first rest.behind (λ has early. false≢true (sym not ∙ early))
    (All-weaker (λ other. P other → ¬ (is_before other.at first.at ≡ true)) (NotEarlier P named)
    (λ other not_first has early. false≢true (sym (is_before-not other.at first.at named.at (was_false (is_before other.at first.at) (not_first has)) not) ∙ early)) rest.behind rest.not_earlier)))

taken_before : (P : Named → Type 0) (named : Named) (list : List Named) → P named → (first : Named) (b : Bool) → is_before first.at named.at ≡ b → IsEarliest P list first → IsEarliest P (named ∷ list) (earlier named (Some first))
taken_before P named list has first true before rest =
    subst (IsEarliest P (named ∷ list)) (sym (earlier-before named first before))
    (record {
      before = named ∷ rest.before;
      behind = rest.behind;
      stands = ap (λ (more : List Named). named ∷ more) rest.stands;
      has = rest.has;
      later = All-cons (λ other. P other → is_before first.at other.at ≡ true) named rest.before (λ _. before) rest.later;
      not_earlier = rest.not_earlier;
    })
taken_before P named list has first false before rest =
    subst (IsEarliest P (named ∷ list)) (sym (earlier-stays named first before)) (alone P named list has (none_earlier P named list first before rest))

taken : (P : Named → Type 0) (named : Named) (list : List Named) → P named → (answer : Option Named) → Describes P list answer → IsEarliest P (named ∷ list) (earlier named answer)
taken P named list has None none =
    subst (IsEarliest P (named ∷ list)) (sym (earlier-same named))
    (alone P named list has (All-weaker (λ other. ¬ P other) (NotEarlier P named) (λ other not has. absurd (not has)) list none))
taken P named list has (Some first) rest = taken_before P named list has first (is_before first.at named.at) refl rest

described_more : (test : Named → Bool) (P : Named → Type 0) → Judges test P → (named : Named) (list : List Named) (b : Bool) → test named ≡ b → Describes P list (earliest (filter test list)) → Describes P (named ∷ list) (earliest (filter test (named ∷ list)))
described_more test P judges named list true here rest =
    subst (Describes P (named ∷ list)) (sym (earliest-here test named list here)) (taken P named list ((judges named).0 here) (earliest (filter test list)) rest)
described_more test P judges named list false here rest =
    subst (Describes P (named ∷ list)) (sym (earliest-later test named list here))
    (passed P named list (λ has. false≢true (sym here ∙ (judges named).1 has)) (earliest (filter test list)) rest)

pub described : (test : Named → Bool) (P : Named → Type 0) → Judges test P → (list : List Named) → Describes P list (earliest (filter test list))
described test P judges [] = subst (Describes P []) (sym earliest-nil) (All-nil (λ other. ¬ P other))
described test P judges (named ∷ list) = described_more test P judges named list (test named) refl (described test P judges list)

pub earliest_first : (test : Named → Bool) (P : Named → Type 0) → Judges test P → (list : List Named) (first : Named) → earliest (filter test list) ≡ Some first → IsEarliest P list first
earliest_first test P judges list first found = subst (Describes P list) found (described test P judges list)

pub none_earliest : (test : Named → Bool) (P : Named → Type 0) → Judges test P → (list : List Named) → earliest (filter test list) ≡ None → NoneHas P list
none_earliest test P judges list none = subst (Describes P list) none (described test P judges list)

skipped : (test : Named → Bool) (P : Named → Type 0) → Judges test P → (named : Named) (list : List Named) (b : Bool) → test named ≡ b → ¬ P named → earliest (filter test list) ≡ None → earliest (filter test (named ∷ list)) ≡ None
skipped test P judges named list true here not rest = absurd (not ((judges named).0 here))
skipped test P judges named list false here not rest = earliest-later test named list here ∙ rest

pub no_earliest : (test : Named → Bool) (P : Named → Type 0) → Judges test P → (list : List Named) → NoneHas P list → earliest (filter test list) ≡ None
no_earliest test P judges [] none = earliest-nil
no_earliest test P judges (named ∷ list) none =
    skipped test P judges named list (test named) refl (All-head (λ other. ¬ P other) named list none)
    (no_earliest test P judges list (All-tail (λ other. ¬ P other) named list none))
