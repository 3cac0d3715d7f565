-- The variables of a small text in its normal form, which is within scope and limits.
use Rattle.std.proofs.Common.{◌≡◌, ℕ, suc, ◌+◌, ◌*◌, ◌≤◌, Bool, true, false, not, cond, ◌&&◌, leb, List, [], ◌∷◌, ◌++◌, length, map, filter, ℤ, pos, Option, None, refl, ap, ◌∙◌, arith, All}
use Rattle.std.specs.Prelude.{slice_get, unwrap_or}
use Rattle.std.specs.Ordering.{int_eq}
use Rattle.std.specs.Str.{bytes_eq}
use Rattle.std.proofs.lemmas.Bool.{cond-false, cond-true, not_from_true, or_right}
use Rattle.std.proofs.lemmas.Bool.Decides.{nat_tests}
use Rattle.std.proofs.lemmas.List.{append-nil, length-map}
use Rattle.std.proofs.lemmas.List.Elements.{All-cons, All-head, All-nil, All-tail}
use Rattle.std.proofs.lemmas.List.Sums.{sum_by-cons}
use Rattle.std.proofs.lemmas.Slice.Eq.{bytes_eq-Decides}
use Rattle.qm_math.specs.Fraction.{Fraction, whole}
use Rattle.qm_math.specs.Rounding.{ceil_of, floor_of}
use Rattle.qm_lex.specs.declared.place.Place.{Place}
use Rattle.qm_model.specs.declared.row.Row.{Row}
use Rattle.qm_model.specs.declared.variable.Player.TheVariants.{Exists, All as Universal}
use Rattle.qm_model.specs.declared.variable.Var.{Var}
use Rattle.qm_parse.specs.Checks.{first_such, has_name, row_uses, sets_upper}
use Rattle.qm_parse.specs.declared.ast.Ast.{Ast}
use Rattle.qm_parse.specs.declared.ast.AstBound.{AstBound}
use Rattle.qm_parse.specs.declared.ast.Named.{Named}
use Rattle.qm_normal.specs.declared.fault.NormalFault.{NormalFault}
use Rattle.qm_normal.specs.declared.fault.NormalFault.TheVariants as fault
use Rattle.qm_normal.specs.Ends.{greater_of, is_binary, last_value, lesser_of, sets_lower}
use Rattle.qm_normal.specs.Limits.{domain_fault, fits_domain, large_domain, rows_fault, terms_in, variables_fault}
use Rattle.qm_normal.specs.Scopes.{continuous_early, continuous_universal, exists_in_uncertainty, followed_by_universal, scope_fault, told}
use Rattle.qm_normal.specs.Variables.{continuous_names, game_order, high_of, is_universal, is_whole, low_of, name_of, var_of, vars_of, whole_names}
use Rattle.qm_small.specs.Written.{Written, WrittenRow}
use Rattle.qm_small.specs.Names as small
use Rattle.qm_small.specs.Problems.{nonzero_from, row_of, stands_in, total, var_of as small_var}
use Rattle.qm_small.proofs.Counting.{length-le_among}
use Rattle.qm_small.proofs.SameParts.{Both, NamedIs}
use Rattle.qm_small.proofs.SameNames.{has_is, names_have, rows_have}
use Rattle.qm_small.proofs.SameTexts.{IsTreeOf}

-- lists that fit have at most 100 names in ORDER too
pub few_in_order : (written : Written) → small.ListsFit written → length written.order ≤ 100
few_in_order written fit =
    omega (arith, fit.few, length-le_among bytes_eq bytes_eq-Decides written.binaries written.order [] fit.order_once fit.order_known)

abbrev pub IsBinary : Ast → Named → Type 0
IsBinary ast named = is_binary ast named.name ≡ true

pub all_binary : (names : List (List ℕ)) (written : Written) (ast : Ast) → IsTreeOf names written ast → small.ListsFit written → All (IsBinary ast) ast.order
all_binary names written ast tree fit = names_have names written.binaries written.order ast.binaries ast.order tree.binaries fit.order_known tree.order

whole_if : (ast : Ast) (n : ℕ) → is_binary ast n ≡ true → is_whole ast n ≡ true
whole_if ast n binary = or_right (has_name ast.generals n) (is_binary ast n) binary

-- ---- filters and searches

filter_each : (test : Named → Bool) (xs : List Named) → All (λ x. test x ≡ true) xs → filter test xs ≡ xs
filter_each test [] all = refl
filter_each test (x ∷ xs) all =
    rw (All-head (λ (x : Named). test x ≡ true) x xs all) (ap (λ (ys : List Named). x ∷ ys) (filter_each test xs (All-tail (λ (x : Named). test x ≡ true) x xs all)))

filter_none : (test : Named → Bool) (xs : List Named) → All (λ x. test x ≡ false) xs → filter test xs ≡ []
filter_none test [] all = refl
filter_none test (x ∷ xs) all = rw (All-head (λ (x : Named). test x ≡ false) x xs all) (filter_none test xs (All-tail (λ (x : Named). test x ≡ false) x xs all))

none_such : (test : Named → Bool) (xs : List Named) → All (λ x. test x ≡ false) xs → first_such test xs ≡ None
unfolding first_such
none_such test [] all = refl
none_such test (x ∷ xs) all = rw (All-head (λ (x : Named). test x ≡ false) x xs all) (none_such test xs (All-tail (λ (x : Named). test x ≡ false) x xs all))

not_first : (a b : Bool) → a ≡ true → (not a && b) ≡ false
not_first true b e = refl
not_first false b e = absurd cc

-- ---- game order

pub whole_order : (ast : Ast) → All (IsBinary ast) ast.order → whole_names ast ≡ ast.order
whole_order ast all = filter_each (λ named. is_whole ast named.name) ast.order (λ k d below. whole_if ast _ (all k d below))

pub none_continuous : (ast : Ast) → All (IsBinary ast) ast.order → continuous_names ast ≡ []
none_continuous ast all = filter_none (λ named. not (is_whole ast named.name)) ast.order (λ k d below. not_from_true _ (whole_if ast _ (all k d below)))

pub game_order_is : (ast : Ast) → All (IsBinary ast) ast.order → game_order ast ≡ ast.order
game_order_is ast all =
    ap (λ (xs : List Named). xs ++ continuous_names ast) (whole_order ast all) ∙ ap (λ (xs : List Named). ast.order ++ xs) (none_continuous ast all) ∙ append-nil ast.order

-- ---- variables

abbrev low_for : Bool → Bool → Option Fraction → ℤ
low_for whole' binary last =
    cond whole' (ceil_of (cond binary (greater_of (whole (pos 0)) (unwrap_or last (whole (pos 0)))) (unwrap_or last (whole (pos 0)))))
    (floor_of (cond binary (greater_of (whole (pos 0)) (unwrap_or last (whole (pos 0)))) (unwrap_or last (whole (pos 0)))))

abbrev high_for : Bool → Bool → Option Fraction → ℤ
high_for whole' binary last =
    cond whole' (floor_of (cond binary (lesser_of (whole (pos 1)) (unwrap_or last (whole (pos 1)))) (unwrap_or last (whole (pos 1)))))
    (ceil_of (cond binary (lesser_of (whole (pos 1)) (unwrap_or last (whole (pos 1)))) (unwrap_or last (whole (pos 1)))))

no_value : (sets : _) (n : ℕ) (bounds : List AstBound) → bounds ≡ [] → last_value sets n bounds ≡ None
unfolding last_value
no_value sets n bounds none = ap (last_value sets n) none

low_is : (ast : Ast) (n : ℕ) → ast.bounds ≡ [] → is_binary ast n ≡ true → low_of ast n ≡ pos 0
low_is ast n none binary =
    ap (λ b. low_for b (is_binary ast n) (last_value sets_lower n ast.bounds)) (whole_if ast n binary)
    ∙ ap (λ b. low_for true b (last_value sets_lower n ast.bounds)) binary
    ∙ ap (low_for true true) (no_value sets_lower n ast.bounds none)

high_is : (ast : Ast) (n : ℕ) → ast.bounds ≡ [] → is_binary ast n ≡ true → high_of ast n ≡ pos 1
high_is ast n none binary =
    ap (λ b. high_for b (is_binary ast n) (last_value sets_upper n ast.bounds)) (whole_if ast n binary)
    ∙ ap (λ b. high_for true b (last_value sets_upper n ast.bounds)) binary
    ∙ ap (high_for true true) (no_value sets_upper n ast.bounds none)

name_is : (names : List (List ℕ)) (ast : Ast) (name : List ℕ) (named : Named) → ast.names ≡ names → NamedIs names name named → name_of ast named.name ≡ name
name_is names ast name named same is =
    ap (λ (list : List (List ℕ)). unwrap_or (slice_get list named.name) []) same ∙ ap (λ n. unwrap_or (slice_get names n) []) is.name ∙ ap (λ (o : Option (List ℕ)). unwrap_or o []) is.held

-- a variable of the small text
pub var_is : (names : List (List ℕ)) (written : Written) (ast : Ast) (name : List ℕ) (named : Named) → IsTreeOf names written ast → NamedIs names name named → IsBinary ast named → var_of ast named ≡ small_var written.universal name
var_is names written ast name named tree is binary =
    let n = named.name in
    let spelled = name_is names ast name named tree.names_are is in
    let universal : is_universal ast n ≡ stands_in written.universal name = ap (is_universal ast) is.name ∙ has_is names written.universal ast.universal name is.held tree.universal in
    let is_whole' = whole_if ast n binary in
    let low = low_is ast n tree.bounds binary in
    let high = high_is ast n tree.bounds binary in
    λ i. record { name = spelled i; player = cond (universal i) Universal Exists; whole = is_whole' i; low = low i; high = high i }

vars_are : (names : List (List ℕ)) (written : Written) (ast : Ast) → IsTreeOf names written ast → (order : List (List ℕ)) (list : List Named) → All (IsBinary ast) list → Both (NamedIs names) order list
    → map (var_of ast) list ≡ map (small_var written.universal) order
vars_are names written ast tree [] [] all both = refl
vars_are names written ast tree [] (named ∷ list) all both = absurd both
vars_are names written ast tree (name ∷ order) [] all both = absurd both
vars_are names written ast tree (name ∷ order) (named ∷ list) all both =
    let first = var_is names written ast name named tree both.0 (All-head (IsBinary ast) named list all) in
    let others = vars_are names written ast tree order list (All-tail (IsBinary ast) named list all) both.1 in
    λ i. first i ∷ others i

pub all_vars : (names : List (List ℕ)) (written : Written) (ast : Ast) → IsTreeOf names written ast → All (IsBinary ast) ast.order → vars_of ast ≡ map (small_var written.universal) written.order
all_vars names written ast tree all = ap (map (var_of ast)) (game_order_is ast all) ∙ vars_are names written ast tree written.order ast.order all tree.order

-- ---- scope

not_followed : (ast : Ast) (list : List Named) → All (IsBinary ast) list → followed_by_universal ast list ≡ None
unfolding followed_by_universal
not_followed ast [] all = refl
not_followed ast (named ∷ list) all =
    rw (whole_if ast named.name (All-head (IsBinary ast) named list all)) (not_followed ast list (All-tail (IsBinary ast) named list all))

not_told : (kind : List ℕ → Place → NormalFault) (ast : Ast) (found : Option Named) (next : Option NormalFault) → found ≡ None → told kind ast found next ≡ next
unfolding told
not_told kind ast found next none = ap (λ (o : Option Named). told kind ast o next) none

-- each name in the uncertainty rows is universal
all_universal : (names : List (List ℕ)) (written : Written) (ast : Ast) → IsTreeOf names written ast → small.NamesFit written → All (λ named. not (is_universal ast named.name) ≡ false) (row_uses ast.uncertain)
all_universal names written ast tree right =
    let over = rows_have names written.universal ast.universal tree.universal written.uncertain ast.uncertain right.uncertain_known tree.uncertain in
    λ k d below. not_from_true _ (over k d below)

pub in_scope : (names : List (List ℕ)) (written : Written) (ast : Ast) → IsTreeOf names written ast → small.NamesFit written → All (IsBinary ast) ast.order → scope_fault ast ≡ None
in_scope names written ast tree right all =
    not_told fault.ContinuousUniversal ast (continuous_universal ast) _ (none_such (λ named. not (is_whole ast named.name) && is_universal ast named.name) ast.order (λ k d below. not_first _ _ (whole_if ast _ (all k d below))))
    ∙ not_told fault.ContinuousEarly ast (continuous_early ast) _ (not_followed ast ast.order all)
    ∙ not_told fault.ExistsInUncertainty ast (exists_in_uncertainty ast) None (none_such (λ named. not (is_universal ast named.name)) (row_uses ast.uncertain) (all_universal names written ast tree right))

-- ---- limits

pub same_length : (names order : List (List ℕ)) (list : List Named) → Both (NamedIs names) order list → length list ≡ length order
same_length names [] [] both = refl
same_length names [] (named ∷ list) both = absurd both
same_length names (name ∷ order) [] both = absurd both
same_length names (name ∷ order) (named ∷ list) both = ap (λ n. suc n) (same_length names order list both.1)

small_fits : (universal : List (List ℕ)) (name : List ℕ) → fits_domain (small_var universal name) ≡ true
small_fits universal name = refl

fits : (names : List (List ℕ)) (written : Written) (ast : Ast) → IsTreeOf names written ast → (order : List (List ℕ)) (list : List Named) → All (IsBinary ast) list → Both (NamedIs names) order list
    → All (λ named. not (fits_domain (var_of ast named)) ≡ false) list
fits names written ast tree [] [] all both = All-nil (λ (named : Named). not (fits_domain (var_of ast named)) ≡ false)
fits names written ast tree [] (named ∷ list) all both = absurd both
fits names written ast tree (name ∷ order) [] all both = absurd both
fits names written ast tree (name ∷ order) (named ∷ list) all both =
    let P : Named → Type 0 = λ named. not (fits_domain (var_of ast named)) ≡ false in
    let first = var_is names written ast name named tree both.0 (All-head (IsBinary ast) named list all) in
    All-cons P named list (ap (λ (x : Var). not (fits_domain x)) first ∙ not_from_true _ (small_fits written.universal name)) (fits names written ast tree order list (All-tail (IsBinary ast) named list all) both.1)

no_domain : (ast : Ast) (found : Option Named) → found ≡ None → domain_fault ast found ≡ None
unfolding domain_fault
no_domain ast found none = ap (domain_fault ast) none

few_test : (n : ℕ) → n ≤ 100 → leb n 1000 ≡ true
few_test n h = grind (arith, nat_tests)

pub variables_fit : (names : List (List ℕ)) (written : Written) (ast : Ast) → IsTreeOf names written ast → small.ListsFit written → All (IsBinary ast) ast.order → variables_fault ast ≡ None
variables_fit names written ast tree fit all =
    let few : length ast.order ≤ 100 = omega (arith, same_length names written.order ast.order tree.order, few_in_order written fit) in
    cond-true (leb (length ast.order) 1000) (domain_fault ast (large_domain ast)) _ (few_test (length ast.order) few)
    ∙ no_domain ast (large_domain ast) (none_such (λ named. not (fits_domain (var_of ast named))) ast.order (fits names written ast tree written.order ast.order all tree.order))

-- ---- how many rows and terms there are

few_nonzero : (n : ℕ) (ks : List ℤ) → length (nonzero_from n ks) ≤ length ks
few_nonzero n [] = omega arith
few_nonzero n (k ∷ ks) =
    let others = few_nonzero (suc n) ks in
    elim (int_eq k (pos 0)) as (λ b. length (cond b (nonzero_from (suc n) ks) (record { var = n; coef = k } ∷ nonzero_from (suc n) ks)) ≤ length (k ∷ ks)) [ true ↦ omega arith | false ↦ omega arith ]

few_terms : (order : List (List ℕ)) (rows : List WrittenRow) → length order ≤ 100 → terms_in (map (row_of order) rows) ≤ length rows * 100
few_terms order [] few = omega arith
few_terms order (row ∷ rows) few =
    let here = few_nonzero 0 (map (total row.terms) order) in
    let others = few_terms order rows few in
    omega (arith, here, others, length-map order (total row.terms), sum_by-cons (λ (r : Row). length r.terms) (row_of order row) (map (row_of order) rows))

small_count : (n most : ℕ) → n ≤ most → not (leb n most) ≡ false
small_count n most h = grind (arith, nat_tests)

pub rows_fit : (order : List (List ℕ)) (rows urows : List WrittenRow) → length order ≤ 100 → length rows + length urows ≤ 2000 → rows_fault (map (row_of order) rows) (map (row_of order) urows) ≡ None
rows_fit order rows urows few few_rows =
    let list = map (row_of order) rows in
    let ulist = map (row_of order) urows in
    let count : length list + length ulist ≤ 2000 = omega (arith, length-map rows (row_of order), length-map urows (row_of order)) in
    let terms : terms_in list + terms_in ulist ≤ 200000 = omega (arith, few_terms order rows few, few_terms order urows few) in
    cond-false (not (leb (length list + length ulist) 2000)) _ _ (small_count (length list + length ulist) 2000 count)
    ∙ cond-false (not (leb (terms_in list + terms_in ulist) 200000)) _ None (small_count (terms_in list + terms_in ulist) 200000 terms)
