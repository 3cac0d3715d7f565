-- The sums of the variables, one term after the other.
use Rattle.std.proofs.Common.{◌≡◌, ℕ, zero, suc, ◌+◌, ◌<◌, ◌≤◌, Bool, true, false, cond, List, [], ◌∷◌, length, drop, set, get_or, replicate, Option, Some, None, Result, Ok, Err, refl, sym, ap, ap₂, ◌∙◌, arith, pos}
use Rattle.std.specs.Result.{result_ok}
use Rattle.std.proofs.lemmas.List.{at_drop_more, at_drop_all}
use Rattle.qm_math.specs.Fraction.{Fraction, whole}
use Rattle.qm_frac.specs.Checked.{added, and_then}
use Rattle.qm_frac.specs.declared.leaves.Leaves.{Leaves}
use Rattle.qm_parse.specs.declared.ast.AstTerm.{AstTerm}
use Rattle.qm_parse.specs.declared.ast.Named.{Named}
use Rattle.qm_normal.specs.Rows.{is_of, total, total_from, totals}
use Rattle.qm_normal.proofs.TermPlaces.{AddsAt, IsPassed}

-- ---- one variable

total-passed : (test : AstTerm → Bool) (term : AstTerm) (terms : List AstTerm) (sum : Fraction) → test term ≡ false → total_from test (term ∷ terms) sum ≡ total_from test terms sum
unfolding total_from
total-passed test term terms sum refused =
    ap (λ (b : Bool). cond b (and_then (added sum term.coef) (total_from test terms)) (total_from test terms sum)) refused

total-taken : (test : AstTerm → Bool) (term : AstTerm) (terms : List AstTerm) (sum more : Fraction) → test term ≡ true → added sum term.coef ≡ Ok more → total_from test (term ∷ terms) sum ≡ total_from test terms more
unfolding total_from
total-taken test term terms sum more accepted is =
    ap (λ (b : Bool). cond b (and_then (added sum term.coef) (total_from test terms)) (total_from test terms sum)) accepted
    ∙ ap (λ (r : Result Fraction Leaves). and_then r (total_from test terms)) is

total-left : (test : AstTerm → Bool) (term : AstTerm) (terms : List AstTerm) (sum : Fraction) (e : Leaves) → test term ≡ true → added sum term.coef ≡ Err e → result_ok (total_from test (term ∷ terms) sum) ≡ None
unfolding total_from
total-left test term terms sum e accepted is =
    ap (λ (b : Bool). result_ok (cond b (and_then (added sum term.coef) (total_from test terms)) (total_from test terms sum))) accepted
    ∙ ap (λ (r : Result Fraction Leaves). result_ok (and_then r (total_from test terms))) is

total-nil : (test : AstTerm → Bool) (sum : Fraction) → total_from test [] sum ≡ Ok sum
unfolding total_from
total-nil test sum = refl

-- ---- all variables

abbrev joined : Option Fraction → Option (List Fraction) → Option (List Fraction)
joined None sums = None
joined (Some sum) None = None
joined (Some sum) (Some sums) = Some (sum ∷ sums)

-- what the terms come to, added to these sums
abbrev pub onto : List Named → List Fraction → List AstTerm → Option (List Fraction)
onto [] sums terms = Some []
onto (named ∷ order) [] terms = None
onto (named ∷ order) (sum ∷ sums) terms = joined (result_ok (total_from (is_of named.name) terms sum)) (onto order sums terms)

joined-then : (one : Result Fraction Leaves) (others : Result (List Fraction) Leaves)
    → joined (result_ok one) (result_ok others) ≡ result_ok (and_then one (λ sum. and_then others (λ sums. Ok (sum ∷ sums))))
joined-then (Err e) others = refl
joined-then (Ok sum) (Err e) = refl
joined-then (Ok sum) (Ok sums) = refl

joined-None : (sum : Option Fraction) → joined sum None ≡ None
joined-None None = refl
joined-None (Some sum) = refl

pub onto-start : (order : List Named) (terms : List AstTerm) → onto order (replicate (length order) (whole (pos 0))) terms ≡ result_ok (totals order terms)
unfolding totals
onto-start [] terms = refl
onto-start (named ∷ order) terms =
    ap (joined (result_ok (total (is_of named.name) terms))) (onto-start order terms) ∙ joined-then (total (is_of named.name) terms) (totals order terms)

onto-nil : (order : List Named) (sums : List Fraction) → length sums ≡ length order → onto order sums [] ≡ Some sums
onto-nil [] [] same = refl
onto-nil [] (sum ∷ sums) same = absurd (omega (arith, same))
onto-nil (named ∷ order) [] same = absurd (omega (arith, same))
onto-nil (named ∷ order) (sum ∷ sums) same =
    ap₂ joined (ap result_ok (total-nil (is_of named.name) sum)) (onto-nil order sums (omega (arith, same)))

onto-passed : (term : AstTerm) (terms : List AstTerm) (order : List Named) (sums : List Fraction) → IsPassed term order → onto order sums (term ∷ terms) ≡ onto order sums terms
onto-passed term terms [] sums passed = refl
onto-passed term terms (named ∷ order) [] passed = refl
onto-passed term terms (named ∷ order) (sum ∷ sums) passed =
    ap₂ joined (ap result_ok (total-passed (is_of named.name) term terms sum passed.0)) (onto-passed term terms order sums passed.1)

onto-added : (term : AstTerm) (terms : List AstTerm) (order : List Named) (sums : List Fraction) (place : ℕ) (d more : Fraction) → AddsAt term order place → added (get_or sums place d) term.coef ≡ Ok more
    → onto order sums (term ∷ terms) ≡ onto order (set sums place more) terms
onto-added term terms [] sums place d more adds is = absurd adds
onto-added term terms (named ∷ order) [] zero d more adds is = refl
onto-added term terms (named ∷ order) [] (suc place) d more adds is = refl
onto-added term terms (named ∷ order) (sum ∷ sums) zero d more adds is =
    ap₂ joined (ap result_ok (total-taken (is_of named.name) term terms sum more adds.0 is)) (onto-passed term terms order sums adds.1)
onto-added term terms (named ∷ order) (sum ∷ sums) (suc place) d more adds is =
    ap₂ joined (ap result_ok (total-passed (is_of named.name) term terms sum adds.0)) (onto-added term terms order sums place d more adds.1 is)

onto-left : (term : AstTerm) (terms : List AstTerm) (order : List Named) (sums : List Fraction) (place : ℕ) (d : Fraction) (e : Leaves) → AddsAt term order place → added (get_or sums place d) term.coef ≡ Err e
    → onto order sums (term ∷ terms) ≡ None
onto-left term terms [] sums place d e adds is = absurd adds
onto-left term terms (named ∷ order) [] place d e adds is = refl
onto-left term terms (named ∷ order) (sum ∷ sums) zero d e adds is =
    ap (λ (o : Option Fraction). joined o (onto order sums (term ∷ terms))) (total-left (is_of named.name) term terms sum e adds.0 is)
onto-left term terms (named ∷ order) (sum ∷ sums) (suc place) d e adds is =
    ap (joined (result_ok (total_from (is_of named.name) (term ∷ terms) sum))) (onto-left term terms order sums place d e adds.1 is)
    ∙ joined-None (result_ok (total_from (is_of named.name) (term ∷ terms) sum))

-- ---- turns of the loop

front : (order : List Named) (sums : List Fraction) (terms : List AstTerm) (i : ℕ) (term : AstTerm) → i < length terms → term ≡ get_or terms i term
    → onto order sums (drop i terms) ≡ onto order sums (term ∷ drop (i + 1) terms)
front order sums terms i term inside is =
    at_drop_more (onto order sums) terms i term inside ∙ ap (λ (t : AstTerm). onto order sums (t ∷ drop (i + 1) terms)) (sym is)

pub turn_passed : (order : List Named) (sums : List Fraction) (terms : List AstTerm) (i : ℕ) (term : AstTerm) (answer : Option (List Fraction)) → i < length terms → term ≡ get_or terms i term → IsPassed term order
    → onto order sums (drop i terms) ≡ answer → onto order sums (drop (i + 1) terms) ≡ answer
turn_passed order sums terms i term answer inside is passed so_far =
    sym (onto-passed term (drop (i + 1) terms) order sums passed) ∙ sym (front order sums terms i term inside is) ∙ so_far

pub turn_added : (order : List Named) (sums : List Fraction) (terms : List AstTerm) (i place : ℕ) (term : AstTerm) (d more : Fraction) (answer : Option (List Fraction)) → i < length terms → term ≡ get_or terms i term → AddsAt term order place
    → added (get_or sums place d) term.coef ≡ Ok more → onto order sums (drop i terms) ≡ answer → onto order (set sums place more) (drop (i + 1) terms) ≡ answer
turn_added order sums terms i place term d more answer inside is adds sum so_far =
    sym (onto-added term (drop (i + 1) terms) order sums place d more adds sum) ∙ sym (front order sums terms i term inside is) ∙ so_far

pub turn_left : (order : List Named) (sums : List Fraction) (terms : List AstTerm) (i place : ℕ) (term : AstTerm) (d : Fraction) (e : Leaves) (answer : Option (List Fraction)) → i < length terms → term ≡ get_or terms i term → AddsAt term order place
    → added (get_or sums place d) term.coef ≡ Err e → onto order sums (drop i terms) ≡ answer → answer ≡ None
turn_left order sums terms i place term d e answer inside is adds sum so_far =
    sym so_far ∙ front order sums terms i term inside is ∙ onto-left term (drop (i + 1) terms) order sums place d e adds sum

pub turn_last : (order : List Named) (sums : List Fraction) (terms : List AstTerm) (i : ℕ) (answer : Option (List Fraction)) → length terms ≤ i → length sums ≡ length order
    → onto order sums (drop i terms) ≡ answer → answer ≡ Some sums
turn_last order sums terms i answer end same so_far =
    sym so_far ∙ at_drop_all (onto order sums) terms i end ∙ onto-nil order sums same

-- ---- constants

total_front : (test : AstTerm → Bool) (terms : List AstTerm) (i : ℕ) (term : AstTerm) (sum : Fraction) → i < length terms → term ≡ get_or terms i term
    → result_ok (total_from test (drop i terms) sum) ≡ result_ok (total_from test (term ∷ drop (i + 1) terms) sum)
total_front test terms i term sum inside is =
    at_drop_more (λ (ts : List AstTerm). result_ok (total_from test ts sum)) terms i term inside
    ∙ ap (λ (t : AstTerm). result_ok (total_from test (t ∷ drop (i + 1) terms) sum)) (sym is)

pub constant_passed : (test : AstTerm → Bool) (terms : List AstTerm) (i : ℕ) (term : AstTerm) (sum : Fraction) (answer : Option Fraction) → i < length terms → term ≡ get_or terms i term → test term ≡ false
    → result_ok (total_from test (drop i terms) sum) ≡ answer → result_ok (total_from test (drop (i + 1) terms) sum) ≡ answer
constant_passed test terms i term sum answer inside is refused so_far =
    sym (ap result_ok (total-passed test term (drop (i + 1) terms) sum refused)) ∙ sym (total_front test terms i term sum inside is) ∙ so_far

pub constant_added : (test : AstTerm → Bool) (terms : List AstTerm) (i : ℕ) (term : AstTerm) (sum more : Fraction) (answer : Option Fraction) → i < length terms → term ≡ get_or terms i term → test term ≡ true
    → added sum term.coef ≡ Ok more → result_ok (total_from test (drop i terms) sum) ≡ answer → result_ok (total_from test (drop (i + 1) terms) more) ≡ answer
constant_added test terms i term sum more answer inside is accepted plus so_far =
    sym (ap result_ok (total-taken test term (drop (i + 1) terms) sum more accepted plus)) ∙ sym (total_front test terms i term sum inside is) ∙ so_far

pub constant_left : (test : AstTerm → Bool) (terms : List AstTerm) (i : ℕ) (term : AstTerm) (sum : Fraction) (e : Leaves) (answer : Option Fraction) → i < length terms → term ≡ get_or terms i term → test term ≡ true
    → added sum term.coef ≡ Err e → result_ok (total_from test (drop i terms) sum) ≡ answer → None ≡ answer
constant_left test terms i term sum e answer inside is accepted plus so_far =
    sym (total-left test term (drop (i + 1) terms) sum e accepted plus) ∙ sym (total_front test terms i term sum inside is) ∙ so_far

pub constant_last : (test : AstTerm → Bool) (terms : List AstTerm) (i : ℕ) (sum : Fraction) (answer : Option Fraction) → length terms ≤ i
    → result_ok (total_from test (drop i terms) sum) ≡ answer → Some sum ≡ answer
constant_last test terms i sum answer end so_far =
    sym (ap result_ok (total-nil test sum)) ∙ sym (at_drop_all (λ (ts : List AstTerm). result_ok (total_from test ts sum)) terms i end) ∙ so_far
