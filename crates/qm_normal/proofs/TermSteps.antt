-- One term more, as the code adds it.
use Rattle.std.proofs.Common.{◌≡◌, ℕ, ◌+◌, ◌<◌, Bool, true, false, cond, List, length, drop, set, get_or, Option, Some, None, Result, Ok, Err, refl, sym, ap, ◌∙◌, arith, pos, length-set}
use Rattle.std.specs.Prelude.{IfSome}
use Rattle.std.specs.Option.{option_and_then, option_map}
use Rattle.std.specs.Result.{result_ok}
use Rattle.std.proofs.lemmas.Option.{none-some, same_Some}
use Rattle.qm_math.specs.Fraction.{Fraction, whole}
use Rattle.qm_frac.specs.Checked.{added}
use Rattle.qm_frac.specs.declared.leaves.Leaves.{Leaves}
use Rattle.qm_parse.specs.declared.ast.AstTerm.{AstTerm}
use Rattle.qm_parse.specs.declared.ast.Named.{Named}
use Rattle.qm_normal.specs.PlaceSteps.{AreApart, IsPlacesOf, place_in}
use Rattle.qm_normal.specs.Rows.{is_constant, total_from}
use Rattle.qm_normal.specs.SumSteps.{added_at, plus_constant}
use Rattle.qm_normal.specs.declared.places.Places.{Places}
use Rattle.qm_normal.proofs.SumsSoFar.{constant_added, constant_left, constant_passed, onto, turn_added, turn_left, turn_passed}
use Rattle.qm_normal.proofs.TermPlaces.{adds-found, adds_inside, passed-found}

abbrev zero_sum : Fraction
zero_sum = whole (pos 0)

-- ---- a term of a variable

pub place_inside : (order : List Named) (places : Places) (term : AstTerm) (place : Option ℕ) (n : ℕ) → IsPlacesOf order places → AreApart order → place ≡ option_and_then (place_in places) term.name → n ≡ length order
    → IfSome place (λ at. at < n)
place_inside order places term None n placed apart found count = tt
place_inside order places term (Some at) n placed apart found count =
    omega (arith, count, adds_inside term order at (adds-found order places term at placed apart found))

length_set : (old : List Fraction) (at : ℕ) (r : Result Fraction Leaves) (new : List Fraction) → Some new ≡ option_map (λ (sum : Fraction). set old at sum) (result_ok r) → length new ≡ length old
length_set old at (Err e) new made = absurd (none-some new (sym made))
length_set old at (Ok sum) new made = ap (length {A = Fraction}) (same_Some new (set old at sum) made) ∙ length-set old at sum

pub count_kept : (old new : List Fraction) (place : Option ℕ) (coef : Fraction) → Some new ≡ added_at old place coef → length new ≡ length old
count_kept old new None coef made = ap (length {A = Fraction}) (same_Some new old made)
count_kept old new (Some at) coef made = length_set old at (added (get_or old at zero_sum) coef) new made

put_at : (order : List Named) (places : Places) (terms : List AstTerm) (i at : ℕ) (term : AstTerm) (old new : List Fraction) (answer : Option (List Fraction)) (r : Result Fraction Leaves)
    → IsPlacesOf order places → AreApart order → i < length terms → term ≡ get_or terms i term → Some at ≡ option_and_then (place_in places) term.name
    → added (get_or old at zero_sum) term.coef ≡ r → Some new ≡ option_map (λ (sum : Fraction). set old at sum) (result_ok r)
    → onto order old (drop i terms) ≡ answer → onto order new (drop (i + 1) terms) ≡ answer
put_at order places terms i at term old new answer (Err e) placed apart inside is found sum made so_far = absurd (none-some new (sym made))
put_at order places terms i at term old new answer (Ok more) placed apart inside is found sum made so_far =
    ap (λ (sums : List Fraction). onto order sums (drop (i + 1) terms)) (same_Some new (set old at more) made)
    ∙ turn_added order old terms i at term zero_sum more answer inside is (adds-found order places term at placed apart found) sum so_far

pub term_put : (order : List Named) (places : Places) (terms : List AstTerm) (i : ℕ) (term : AstTerm) (place : Option ℕ) (old new : List Fraction) (answer : Option (List Fraction))
    → IsPlacesOf order places → AreApart order → i < length terms → term ≡ get_or terms i term → place ≡ option_and_then (place_in places) term.name
    → Some new ≡ added_at old place term.coef
    → onto order old (drop i terms) ≡ answer → onto order new (drop (i + 1) terms) ≡ answer
term_put order places terms i term None old new answer placed apart inside is found made so_far =
    ap (λ (sums : List Fraction). onto order sums (drop (i + 1) terms)) (same_Some new old made)
    ∙ turn_passed order old terms i term answer inside is (passed-found order places term placed found) so_far
term_put order places terms i term (Some at) old new answer placed apart inside is found made so_far =
    put_at order places terms i at term old new answer (added (get_or old at zero_sum) term.coef) placed apart inside is found refl made so_far

left_at : (order : List Named) (places : Places) (terms : List AstTerm) (i at : ℕ) (term : AstTerm) (old : List Fraction) (answer : Option (List Fraction)) (r : Result Fraction Leaves)
    → IsPlacesOf order places → AreApart order → i < length terms → term ≡ get_or terms i term → Some at ≡ option_and_then (place_in places) term.name
    → added (get_or old at zero_sum) term.coef ≡ r → None ≡ option_map (λ (sum : Fraction). set old at sum) (result_ok r)
    → onto order old (drop i terms) ≡ answer → answer ≡ None
left_at order places terms i at term old answer (Ok more) placed apart inside is found sum made so_far = absurd (none-some (set old at more) made)
left_at order places terms i at term old answer (Err e) placed apart inside is found sum made so_far =
    turn_left order old terms i at term zero_sum e answer inside is (adds-found order places term at placed apart found) sum so_far

pub term_left : (order : List Named) (places : Places) (terms : List AstTerm) (i : ℕ) (term : AstTerm) (place : Option ℕ) (old : List Fraction) (answer : Option (List Fraction))
    → IsPlacesOf order places → AreApart order → i < length terms → term ≡ get_or terms i term → place ≡ option_and_then (place_in places) term.name
    → None ≡ added_at old place term.coef
    → onto order old (drop i terms) ≡ answer → answer ≡ None
term_left order places terms i term None old answer placed apart inside is found made so_far = absurd (none-some old made)
term_left order places terms i term (Some at) old answer placed apart inside is found made so_far =
    left_at order places terms i at term old answer (added (get_or old at zero_sum) term.coef) placed apart inside is found refl made so_far

-- ---- a constant

plus_result : (terms : List AstTerm) (i : ℕ) (term : AstTerm) (sum more : Fraction) (answer : Option Fraction) (r : Result Fraction Leaves) → i < length terms → term ≡ get_or terms i term → is_constant term ≡ true
    → added sum term.coef ≡ r → Some more ≡ result_ok r → result_ok (total_from is_constant (drop i terms) sum) ≡ answer → result_ok (total_from is_constant (drop (i + 1) terms) more) ≡ answer
plus_result terms i term sum more answer (Err e) inside is accepted plus made so_far = absurd (none-some more (sym made))
plus_result terms i term sum more answer (Ok other) inside is accepted plus made so_far =
    ap (λ (s : Fraction). result_ok (total_from is_constant (drop (i + 1) terms) s)) (same_Some more other made)
    ∙ constant_added is_constant terms i term sum other answer inside is accepted plus so_far

plus_chosen : (terms : List AstTerm) (i : ℕ) (term : AstTerm) (sum more : Fraction) (answer : Option Fraction) (b : Bool) → i < length terms → term ≡ get_or terms i term → is_constant term ≡ b
    → Some more ≡ cond b (result_ok (added sum term.coef)) (Some sum)
    → result_ok (total_from is_constant (drop i terms) sum) ≡ answer → result_ok (total_from is_constant (drop (i + 1) terms) more) ≡ answer
plus_chosen terms i term sum more answer true inside is accepted made so_far =
    plus_result terms i term sum more answer (added sum term.coef) inside is accepted refl made so_far
plus_chosen terms i term sum more answer false inside is refused made so_far =
    ap (λ (s : Fraction). result_ok (total_from is_constant (drop (i + 1) terms) s)) (same_Some more sum made)
    ∙ constant_passed is_constant terms i term sum answer inside is refused so_far

pub constant_put : (terms : List AstTerm) (i : ℕ) (term : AstTerm) (sum more : Fraction) (answer : Option Fraction) → i < length terms → term ≡ get_or terms i term → Some more ≡ plus_constant sum term
    → result_ok (total_from is_constant (drop i terms) sum) ≡ answer → result_ok (total_from is_constant (drop (i + 1) terms) more) ≡ answer
constant_put terms i term sum more answer inside is made so_far = plus_chosen terms i term sum more answer (is_constant term) inside is refl made so_far

no_plus_result : (terms : List AstTerm) (i : ℕ) (term : AstTerm) (sum : Fraction) (answer : Option Fraction) (r : Result Fraction Leaves) → i < length terms → term ≡ get_or terms i term → is_constant term ≡ true
    → added sum term.coef ≡ r → None ≡ result_ok r → result_ok (total_from is_constant (drop i terms) sum) ≡ answer → None ≡ answer
no_plus_result terms i term sum answer (Ok other) inside is accepted plus made so_far = absurd (none-some other made)
no_plus_result terms i term sum answer (Err e) inside is accepted plus made so_far =
    constant_left is_constant terms i term sum e answer inside is accepted plus so_far

no_plus_chosen : (terms : List AstTerm) (i : ℕ) (term : AstTerm) (sum : Fraction) (answer : Option Fraction) (b : Bool) → i < length terms → term ≡ get_or terms i term → is_constant term ≡ b
    → None ≡ cond b (result_ok (added sum term.coef)) (Some sum) → result_ok (total_from is_constant (drop i terms) sum) ≡ answer → None ≡ answer
no_plus_chosen terms i term sum answer true inside is accepted made so_far = no_plus_result terms i term sum answer (added sum term.coef) inside is accepted refl made so_far
no_plus_chosen terms i term sum answer false inside is refused made so_far = absurd (none-some sum made)

pub constant_gone : (terms : List AstTerm) (i : ℕ) (term : AstTerm) (sum : Fraction) (answer : Option Fraction) → i < length terms → term ≡ get_or terms i term → None ≡ plus_constant sum term
    → result_ok (total_from is_constant (drop i terms) sum) ≡ answer → None ≡ answer
constant_gone terms i term sum answer inside is made so_far = no_plus_chosen terms i term sum answer (is_constant term) inside is refl made so_far
