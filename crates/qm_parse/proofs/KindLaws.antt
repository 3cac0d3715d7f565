-- Each kind of offence: what its check finds breaks its rule first, and it finds nothing exactly where that is kept.
use Rattle.std.proofs.Common.{◌≡◌, Bool, true, false, not, ◌||◌, List, Option, Some, None, refl, sym, ap, ◌∙◌, Decides}
use Rattle.std.specs.Prelude.{All}
use Rattle.std.proofs.lemmas.Bool.Decides.{Decides-not}
use Rattle.std.proofs.lemmas.List.Elements.{All-weaker}
use Rattle.qm_parse.specs.Checks.{both_players, first_such, has_name, has_upper, infinite, twice, unknown, unordered, uses, without_upper}
use Rattle.qm_parse.specs.NameFaults.{BreaksFirst, IsFirst, Keeps}
use Rattle.qm_parse.specs.declared.ast.Ast.{Ast}
use Rattle.qm_parse.specs.declared.ast.Named.{Named}
use Rattle.qm_parse.specs.declared.offence.Offence.{Offence}
use Rattle.qm_parse.specs.declared.offence.Offence.TheVariants.{BothPlayers, Twice, Unknown, Unordered, Infinite, NoUpper}
use Rattle.qm_parse.proofs.EarliestOf.{earliest_first, no_earliest, none_earliest}
use Rattle.qm_parse.proofs.FirstFound.{earliest_found, first_found, infinite_found, second_found}
use Rattle.qm_parse.proofs.FirstOf.{Judges, found_first, none_found, none_has}
use Rattle.qm_parse.proofs.InfiniteBounds.{all_finite, infinite_first, none_infinite}
use Rattle.qm_parse.proofs.OnceOnly.{never_repeated, once, repeated_first}

-- what the check of a kind finds
abbrev pub found_of : Ast → Offence → Option Named
found_of ast BothPlayers = both_players ast
found_of ast Twice = twice ast
found_of ast Unknown = unknown ast
found_of ast Unordered = unordered ast
found_of ast Infinite = infinite ast
found_of ast NoUpper = without_upper ast

decides : (b : Bool) → Decides b (b ≡ true)
decides b = (λ e. e, λ e. e)

lacks : (b : Bool) → Decides (not b) (¬ (b ≡ true))
lacks b = Decides-not b (decides b)

stable : (b : Bool) → ¬ ¬ (b ≡ true) → b ≡ true
stable true twice_not = refl
stable false twice_not = absurd (twice_not (λ e. absurd (cc)))

abbrev passes : (Named → Bool) → Named → Type 0
passes test named = test named ≡ true

all_pass : (test : Named → Bool) (list : List Named) → All (λ named. ¬ ¬ passes test named) list → All (passes test) list
all_pass test list none = All-weaker (λ named. ¬ ¬ passes test named) (passes test) (λ named. stable (test named)) list none

none_fails : (test : Named → Bool) (list : List Named) → All (passes test) list → All (λ named. ¬ ¬ passes test named) list
none_fails test list all = All-weaker (passes test) (λ named. ¬ ¬ passes test named) (λ named pass fails. fails pass) list all

abbrev fails : (Named → Bool) → Named → Type 0
fails test named = ¬ passes test named

abbrev fails_test : (Named → Bool) → Named → Bool
fails_test test named = not (test named)

judged : (test : Named → Bool) → Judges test (passes test)
judged test named = decides (test named)

judged_not : (test : Named → Bool) → Judges (fails_test test) (fails test)
judged_not test named = lacks (test named)

-- a check whose rule is that each of a list passes a test
all_if_none : (test : Named → Bool) (list : List Named) → first_such (fails_test test) list ≡ None → All (passes test) list
all_if_none test list none = all_pass test list (none_has (fails_test test) (fails test) (judged_not test) list none)

none_if_all : (test : Named → Bool) (list : List Named) → All (passes test) list → first_such (fails_test test) list ≡ None
none_if_all test list all = none_found (fails_test test) (fails test) (judged_not test) list (none_fails test list all)

first_to_fail : (test : Named → Bool) (list : List Named) (named : Named) → first_such (fails_test test) list ≡ Some named → IsFirst (fails test) list named
first_to_fail test list named found = found_first (fails_test test) (fails test) (judged_not test) list named found

abbrev in_exists : Ast → Named → Bool
in_exists ast named = has_name ast.existential named.name

abbrev in_uses : Ast → Named → Bool
in_uses ast named = has_name (uses ast) named.name

abbrev in_order : Ast → Named → Bool
in_order ast named = has_name ast.order named.name

abbrev is_bounded : Ast → Named → Bool
is_bounded ast named = has_name ast.binaries named.name || has_upper ast.bounds named.name

pub Keeps-from_None : (ast : Ast) (kind : Offence) → found_of ast kind ≡ None → Keeps ast kind
Keeps-from_None ast BothPlayers none = none_has (in_exists ast) (passes (in_exists ast)) (judged (in_exists ast)) ast.universal none
Keeps-from_None ast Twice none = once ast.order none
Keeps-from_None ast Unknown none = all_if_none (in_uses ast) ast.order none
Keeps-from_None ast Unordered none =
    all_pass (in_order ast) (uses ast) (none_earliest (fails_test (in_order ast)) (fails (in_order ast)) (judged_not (in_order ast)) (uses ast) none)
Keeps-from_None ast Infinite none = all_finite ast.bounds none
Keeps-from_None ast NoUpper none = all_if_none (is_bounded ast) ast.order none

pub None-from_Keeps : (ast : Ast) (kind : Offence) → Keeps ast kind → found_of ast kind ≡ None
None-from_Keeps ast BothPlayers keeps = none_found (in_exists ast) (passes (in_exists ast)) (judged (in_exists ast)) ast.universal keeps
None-from_Keeps ast Twice keeps = never_repeated ast.order keeps
None-from_Keeps ast Unknown keeps = none_if_all (in_uses ast) ast.order keeps
None-from_Keeps ast Unordered keeps =
    no_earliest (fails_test (in_order ast)) (fails (in_order ast)) (judged_not (in_order ast)) (uses ast) (none_fails (in_order ast) (uses ast) keeps)
None-from_Keeps ast Infinite keeps = none_infinite ast.bounds keeps
None-from_Keeps ast NoUpper keeps = none_if_all (is_bounded ast) ast.order keeps

pub BreaksFirst-from_found : (ast : Ast) (kind : Offence) (named : Named) → found_of ast kind ≡ Some named → BreaksFirst ast kind named
BreaksFirst-from_found ast BothPlayers named found = found_first (in_exists ast) (passes (in_exists ast)) (judged (in_exists ast)) ast.universal named found
BreaksFirst-from_found ast Twice named found = repeated_first ast.order named found
BreaksFirst-from_found ast Unknown named found = first_to_fail (in_uses ast) ast.order named found
BreaksFirst-from_found ast Unordered named found =
    earliest_first (fails_test (in_order ast)) (fails (in_order ast)) (judged_not (in_order ast)) (uses ast) named found
BreaksFirst-from_found ast Infinite named found = infinite_first ast.bounds named found
BreaksFirst-from_found ast NoUpper named found = first_to_fail (is_bounded ast) ast.order named found

pub found-from_BreaksFirst : (ast : Ast) (kind : Offence) (named : Named) → BreaksFirst ast kind named → found_of ast kind ≡ Some named
found-from_BreaksFirst ast BothPlayers named first = first_found (in_exists ast) (passes (in_exists ast)) (judged (in_exists ast)) ast.universal named first
found-from_BreaksFirst ast Twice named first = second_found ast.order named first
found-from_BreaksFirst ast Unknown named first = first_found (fails_test (in_uses ast)) (fails (in_uses ast)) (judged_not (in_uses ast)) ast.order named first
found-from_BreaksFirst ast Unordered named first =
    earliest_found (fails_test (in_order ast)) (fails (in_order ast)) (judged_not (in_order ast)) (uses ast) named first
found-from_BreaksFirst ast Infinite named first =
    infinite_found ast.bounds first.0 first.2 ∙ ap (λ (named : Named). Some named) (sym first.1)
found-from_BreaksFirst ast NoUpper named first =
    first_found (fails_test (is_bounded ast)) (fails (is_bounded ast)) (judged_not (is_bounded ast)) ast.order named first
