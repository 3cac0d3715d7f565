-- What stands first by the rules is what the checks find.
use Rattle.std.proofs.Common.{◌≡◌, Bool, true, false, ◌||◌, eqb, List, [], ◌∷◌, ◌++◌, Option, Some, None, refl, ap, ◌∙◌, subst}
use Rattle.std.specs.Prelude.{All, AllPairs}
use Rattle.std.specs.List.{filter}
use Rattle.std.proofs.lemmas.Bool.{false≢true}
use Rattle.std.proofs.lemmas.List.Elements.{All-head, All-tail}
use Rattle.qm_parse.specs.Checks.{Has, bound_use, earlier, earliest, first_such, has_name, is_before, is_infinite, repeated}
use Rattle.qm_parse.specs.NameFaults.{IsEarliest, IsFirst, IsFirstSecond}
use Rattle.qm_parse.specs.declared.ast.AstBound.{AstBound}
use Rattle.qm_parse.specs.declared.ast.Named.{Named}
use Rattle.qm_parse.proofs.Earliest.{earlier-same}
use Rattle.qm_parse.proofs.EarliestOf.{Describes, NotEarlier, described, earlier-before, earlier-stays, earliest-here, earliest-later, was_false}
use Rattle.qm_parse.proofs.FirstOf.{Judges, NoneHas}
use Rattle.qm_parse.proofs.FirstSuch.{first_such-here, first_such-later}
use Rattle.qm_parse.proofs.InfiniteBounds.{HasNoValue, first_infinite, first_infinite-here, first_infinite-later, judged}
use Rattle.qm_parse.proofs.OnceOnly.{AllPairs-head, AllPairs-tail, Apart, Apart-cons, OtherName}
use Rattle.qm_parse.proofs.Repeats.{repeated-here, repeated-later}

first_behind : (test : Named → Bool) (P : Named → Type 0) → Judges test P → (before : List Named) (named : Named) (behind : List Named) → P named → NoneHas P before → first_such test (before ++ named ∷ behind) ≡ Some named
first_behind test P judges [] named behind has none = first_such-here test named behind ((judges named).1 has)
first_behind test P judges (other ∷ before) named behind has none =
    first_such-later test other (before ++ named ∷ behind) (was_false (test other) (λ e. All-head (λ other. ¬ P other) other before none ((judges other).0 e)))
    ∙ first_behind test P judges before named behind has (All-tail (λ other. ¬ P other) other before none)

pub first_found : (test : Named → Bool) (P : Named → Type 0) → Judges test P → (list : List Named) (named : Named) → IsFirst P list named → first_such test list ≡ Some named
first_found test P judges list named first =
    ap (first_such test) first.stands ∙ first_behind test P judges first.before named first.behind first.has first.none_before

infinite_behind : (before : List AstBound) (bound : AstBound) (behind : List AstBound) → HasNoValue bound → All (λ other. ¬ HasNoValue other) before → first_infinite (before ++ bound ∷ behind) ≡ Some (bound_use bound)
infinite_behind [] bound behind has none = first_infinite-here bound behind ((judged bound).1 has)
infinite_behind (other ∷ before) bound behind has none =
    first_infinite-later other (before ++ bound ∷ behind) (was_false (is_infinite other) (λ e. All-head (λ other. ¬ HasNoValue other) other before none ((judged other).0 e)))
    ∙ infinite_behind before bound behind has (All-tail (λ other. ¬ HasNoValue other) other before none)

pub infinite_found : (bounds : List AstBound) (bound : AstBound) → IsFirst HasNoValue bounds bound → first_infinite bounds ≡ Some (bound_use bound)
infinite_found bounds bound first = ap first_infinite first.stands ∙ infinite_behind first.before bound first.behind first.has first.none_before

moved_back : (a b c : Bool) → (b || (a || c)) ≡ true → ((a || b) || c) ≡ true
moved_back true b c e = refl
moved_back false true c e = refl
moved_back false false c e = e

left_true : (a : Bool) → (a || false) ≡ true → a ≡ true
left_true true e = refl
left_true false e = e

second_behind : (others before : List Named) (named : Named) (behind : List Named) → (has_name others named.name || has_name before named.name) ≡ true → Apart others before → AllPairs OtherName before → repeated others (before ++ named ∷ behind) ≡ Some named
second_behind others [] named behind again apart pairs = repeated-here others named behind (left_true (has_name others named.name) again)
second_behind others (other ∷ before) named behind again apart pairs =
    let rest : Apart others before = All-tail (λ one. ¬ Has others one.name) other before apart in
    repeated-later others other (before ++ named ∷ behind) (was_false (has_name others other.name) (All-head (λ one. ¬ Has others one.name) other before apart))
    ∙ second_behind (other ∷ others) before named behind (moved_back (eqb other.name named.name) (has_name others named.name) (has_name before named.name) again)
    (Apart-cons other others before (AllPairs-head OtherName other before pairs) rest) (AllPairs-tail OtherName other before pairs)

pub second_found : (list : List Named) (named : Named) → IsFirstSecond list named → repeated [] list ≡ Some named
second_found list named second =
    ap (repeated []) second.stands ∙ second_behind [] second.before named second.behind second.again (λ k d inside has. false≢true has) second.once_before

-- what holds of a whole list holds of one between two parts
between : {X : Type 0} (P : X → Type 0) (before : List X) (x : X) (behind : List X) → All P (before ++ x ∷ behind) → P x
between P [] x behind all = All-head P x behind all
between P (y ∷ before) x behind all = between P before x behind (All-tail P y (before ++ x ∷ behind) all)

stays_first : (P : Named → Type 0) (named : Named) (behind : List Named) → All (NotEarlier P named) behind → (answer : Option Named) → Describes P behind answer → earlier named answer ≡ named
stays_first P named behind not None none = earlier-same named
stays_first P named behind not (Some first) rest =
    let later = between (NotEarlier P named) rest.before first rest.behind (subst (All (NotEarlier P named)) rest.stands not) in
    earlier-stays named first (was_false (is_before first.at named.at) (later rest.has))

passed_over : (test : Named → Bool) (P : Named → Type 0) → Judges test P → (other : Named) (list : List Named) (named : Named) (b : Bool) → test other ≡ b → (P other → is_before named.at other.at ≡ true) → earliest (filter test list) ≡ Some named → earliest (filter test (other ∷ list)) ≡ Some named
passed_over test P judges other list named true here later rest =
    earliest-here test other list here ∙ ap (λ (answer : Option Named). Some (earlier other answer)) rest
    ∙ ap (λ (first : Named). Some first) (earlier-before other named (later ((judges other).0 here)))
passed_over test P judges other list named false here later rest = earliest-later test other list here ∙ rest

earliest_behind : (test : Named → Bool) (P : Named → Type 0) → Judges test P → (before : List Named) (named : Named) (behind : List Named) → P named → All (λ other. P other → is_before named.at other.at ≡ true) before → All (NotEarlier P named) behind → earliest (filter test (before ++ named ∷ behind)) ≡ Some named
earliest_behind test P judges [] named behind has later not =
    earliest-here test named behind ((judges named).1 has)
    ∙ ap (λ (first : Named). Some first) (stays_first P named behind not (earliest (filter test behind)) (described test P judges behind))
earliest_behind test P judges (other ∷ before) named behind has later not =
    passed_over test P judges other (before ++ named ∷ behind) named (test other) refl (All-head (λ other. P other → is_before named.at other.at ≡ true) other before later)
    (earliest_behind test P judges before named behind has (All-tail (λ other. P other → is_before named.at other.at ≡ true) other before later) not)

pub earliest_found : (test : Named → Bool) (P : Named → Type 0) → Judges test P → (list : List Named) (named : Named) → IsEarliest P list named → earliest (filter test list) ≡ Some named
earliest_found test P judges list named first =
    ap (λ (list : List Named). earliest (filter test list)) first.stands
    ∙ earliest_behind test P judges first.before named first.behind first.has first.later first.not_earlier
