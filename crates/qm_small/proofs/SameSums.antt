-- The rows of a small text in their normal form: sums of whole numbers, over the denominator 1.
use Rattle.std.proofs.Common.{◌≡◌, ℕ, zero, suc, ◌+◌, ◌*◌, ◌^◌, ◌<◌, ◌≤◌, Bool, true, false, cond, ◌&&◌, eqb, leb, List, [], ◌∷◌, length, map, filter, fold, ℤ, pos, neg_ℤ, ◌+ℤ◌, unsigned_abs, Option, Some, None, Ok, refl, ap, sym, subst, ◌∙◌, arith, get_or, All}
use Rattle.std.specs.Prelude.{slice_get}
use Rattle.std.specs.Option.{option_map, option_map_or}
use Rattle.std.specs.Ordering.{int_eq}
use Rattle.std.specs.Str.{bytes_eq}
use Rattle.std.proofs.lemmas.Bool.{cond-true}
use Rattle.std.proofs.lemmas.Bool.Decides.{nat_tests}
use Rattle.std.proofs.lemmas.Int.{ints}
use Rattle.std.proofs.lemmas.List.{length-map}
use Rattle.std.proofs.lemmas.List.Elements.{All-head, All-map, All-tail}
use Rattle.std.proofs.lemmas.List.Sums.{sum_by-cons}
use Rattle.std.proofs.lemmas.Option.{slice_get-map}
use Rattle.qm_math.specs.Fraction.{Fraction, whole}
use Rattle.qm_math.specs.Ranges.{reach}
use Rattle.qm_frac.specs.Checked.{Checked, added, and_then}
use Rattle.qm_frac.specs.Gcd.{gcd_of, gcd_within}
use Rattle.qm_frac.proofs.WholeSteps.{added-whole}
use Rattle.qm_model.specs.declared.row.Row.{Row}
use Rattle.qm_model.specs.declared.row.Term.{Term}
use Rattle.qm_model.specs.declared.variable.Var.{Var}
use Rattle.qm_model.specs.Sizes.{reach_in_vars, row_size, terms_size}
use Rattle.qm_parse.specs.declared.ast.AstRow.{AstRow}
use Rattle.qm_parse.specs.declared.ast.AstTerm.{AstTerm}
use Rattle.qm_parse.specs.declared.ast.Named.{Named}
use Rattle.qm_normal.specs.Rows as normal
use Rattle.qm_normal.proofs.FormSteps.{normal_row-totals}
use Rattle.qm_small.specs.Written.{WrittenRow, WrittenTerm}
use Rattle.qm_small.specs.Problems.{nonzero_from, row_of, signed_factor, terms_of, total, var_of}
use Rattle.qm_small.proofs.Numbering.{Held, number_of, number_test}
use Rattle.qm_small.proofs.SameParts.{Both, NamedIs, RowIs, TermIs}

-- ---- sums

factor_size : (negative : Bool) (n : ℕ) → unsigned_abs (cond negative (neg_ℤ (pos n)) (pos n)) ≡ n
factor_size true zero = refl
factor_size true (suc n) = refl
factor_size false n = refl

sum_size : (a b : ℤ) → unsigned_abs (a +ℤ b) ≤ unsigned_abs a + unsigned_abs b
sum_size a b = omega (arith, ints)

-- the term is of a name exactly where the written one is
test_is : (names : List (List ℕ)) (name : List ℕ) (written : WrittenTerm) (term : AstTerm) → Held names name → TermIs names written term → normal.is_of (number_of names name) term ≡ bytes_eq written.name name
test_is names name written term held is =
    let P : Option ℕ → Type 0 = λ o. (elim o as (λ _. Bool) [ None ↦ false | Some other ↦ eqb other (number_of names name) ]) ≡ bytes_eq written.name name in
    subst P (sym is.name) (number_test names written.name name is.held held)

abbrev sum_from : ℤ → List WrittenTerm → List ℕ → ℤ
sum_from start written name = fold ◌+ℤ◌ start (map signed_factor (filter (λ (t : WrittenTerm). bytes_eq t.name name) written))

and_then-added : (test : AstTerm → Bool) (terms : List AstTerm) (s k : ℤ) (coef : Fraction) → coef ≡ whole k → unsigned_abs s < 2 ^ 127 → unsigned_abs k < 2 ^ 127 → unsigned_abs (s +ℤ k) < 2 ^ 127
    → and_then (added (whole s) coef) (normal.total_from test terms) ≡ normal.total_from test terms (whole (s +ℤ k))
and_then-added test terms s k coef is p q r =
    ap (λ (c : Fraction). and_then (added (whole s) c) (normal.total_from test terms)) is ∙ ap (λ (x : Checked Fraction). and_then x (normal.total_from test terms)) (added-whole s k p q r)

total_step : (test : AstTerm → Bool) (term : AstTerm) (terms : List AstTerm) (sum : Fraction) → normal.total_from test (term ∷ terms) sum ≡ cond (test term) (and_then (added sum term.coef) (normal.total_from test terms)) (normal.total_from test terms sum)
unfolding normal.total_from
total_step test term terms sum = refl

total_nil : (test : AstTerm → Bool) (sum : Fraction) → normal.total_from test [] sum ≡ Ok sum
unfolding normal.total_from
total_nil test sum = refl

abbrev IsTotal : (AstTerm → Bool) → List AstTerm → ℤ → ℤ → Type 0
IsTotal test terms start sum = normal.total_from test terms (whole start) ≡ Ok (whole sum)

total_with_term : (test : AstTerm → Bool) (name : List ℕ) (written : WrittenTerm) (others : List WrittenTerm) (term : AstTerm) (terms : List AstTerm) (s : ℤ) (b : Bool) → test term ≡ b → term.coef ≡ whole (signed_factor written) → written.factor < 2 ^ 32
    → unsigned_abs s < 2 ^ 126 → (b ≡ true → IsTotal test terms (s +ℤ signed_factor written) (sum_from (s +ℤ signed_factor written) others name)) → IsTotal test terms s (sum_from s others name)
    → normal.total_from test (term ∷ terms) (whole s)
    ≡ Ok (whole (fold ◌+ℤ◌ s (map signed_factor (cond b (written ∷ filter (λ (t : WrittenTerm). bytes_eq t.name name) others) (filter (λ (t : WrittenTerm). bytes_eq t.name name) others)))))
total_with_term test name written others term terms s true is coef few small added' passed =
    let k = signed_factor written in
    let size : unsigned_abs k ≡ written.factor = factor_size written.negative written.factor in
    let grown = sum_size s k in
    total_step test term terms (whole s)
    ∙ ap (λ c. cond c (and_then (added (whole s) term.coef) (normal.total_from test terms)) (normal.total_from test terms (whole s))) is
    ∙ and_then-added test terms s k term.coef coef (omega arith) (omega arith) (omega arith)
    ∙ added' refl
total_with_term test name written others term terms s false is coef few small added' passed =
    total_step test term terms (whole s) ∙ ap (λ c. cond c (and_then (added (whole s) term.coef) (normal.total_from test terms)) (normal.total_from test terms (whole s))) is ∙ passed

total_is : (names : List (List ℕ)) (name : List ℕ) → Held names name → (written : List WrittenTerm) (terms : List AstTerm) (s : ℤ) → Both (TermIs names) written terms → unsigned_abs s + length written * 2 ^ 32 < 2 ^ 126
    → IsTotal (normal.is_of (number_of names name)) terms s (sum_from s written name)
total_is names name held [] [] s both small = total_nil (normal.is_of (number_of names name)) (whole s)
total_is names name held [] (t ∷ terms) s both small = absurd both
total_is names name held (w ∷ written) [] s both small = absurd both
total_is names name held (w ∷ written) (t ∷ terms) s both small =
    let size : unsigned_abs (signed_factor w) ≡ w.factor = factor_size w.negative w.factor in
    let few = both.0.small in
    let grown = sum_size s (signed_factor w) in
    total_with_term (normal.is_of (number_of names name)) name w written t terms s (bytes_eq w.name name) (test_is names name w t held both.0) both.0.coef few (omega arith)
    (λ _. total_is names name held written terms (s +ℤ signed_factor w) both.1 (omega arith))
    (total_is names name held written terms s both.1 (omega arith))

totals_step : (named : Named) (order : List Named) (terms : List AstTerm) (sum : Fraction) (sums : List Fraction) → normal.total (normal.is_of named.name) terms ≡ Ok sum → normal.totals order terms ≡ Ok sums → normal.totals (named ∷ order) terms ≡ Ok (sum ∷ sums)
unfolding normal.totals
totals_step named order terms sum sums p q = rw (p, q) refl

totals_nil : (terms : List AstTerm) → normal.totals [] terms ≡ Ok []
unfolding normal.totals
totals_nil terms = refl

pub totals_are : (names : List (List ℕ)) (written : List WrittenTerm) (terms : List AstTerm) → Both (TermIs names) written terms → length written ≤ 2 ^ 64 → (order : List (List ℕ)) (list : List Named) → Both (NamedIs names) order list
    → normal.totals list terms ≡ Ok (map whole (map (total written) order))
totals_are names written terms is few [] [] both = totals_nil terms
totals_are names written terms is few [] (named ∷ list) both = absurd both
totals_are names written terms is few (name ∷ order) [] both = absurd both
totals_are names written terms is few (name ∷ order) (named ∷ list) both =
    let here : normal.total (normal.is_of named.name) terms ≡ Ok (whole (total written name)) =
    ap (λ n. normal.total (normal.is_of n) terms) both.0.name ∙ total_is names name both.0.held written terms (pos 0) is (omega arith) in
    totals_step named list terms (whole (total written name)) (map whole (map (total written) order)) here (totals_are names written terms is few order list both.1)

constant_none : (names : List (List ℕ)) (written : WrittenTerm) (term : AstTerm) → TermIs names written term → normal.is_constant term ≡ false
constant_none names written term is =
    let P : Option ℕ → Type 0 = λ o. (elim o as (λ _. Bool) [ None ↦ true | Some other ↦ false ]) ≡ false in
    subst P (sym is.name) refl

pub no_constant : (names : List (List ℕ)) (written : List WrittenTerm) (terms : List AstTerm) → Both (TermIs names) written terms → normal.total normal.is_constant terms ≡ Ok (whole (pos 0))
no_constant names [] [] both = total_nil normal.is_constant (whole (pos 0))
no_constant names [] (t ∷ terms) both = absurd both
no_constant names (w ∷ written) [] both = absurd both
no_constant names (w ∷ written) (t ∷ terms) both =
    total_step normal.is_constant t terms (whole (pos 0))
    ∙ ap (λ c. cond c (and_then (added (whole (pos 0)) t.coef) (normal.total_from normal.is_constant terms)) (normal.total_from normal.is_constant terms (whole (pos 0)))) (constant_none names w t both.0)
    ∙ no_constant names written terms both.1

-- ---- the denominator 1

denominator_step : (value : Fraction) (values : List Fraction) → normal.common_denominator (value ∷ values) ≡ normal.common_multiple value.den (normal.common_denominator values)
unfolding normal.common_denominator
denominator_step value values = refl

denominator_nil : normal.common_denominator [] ≡ 1
unfolding normal.common_denominator
denominator_nil = refl

multiple_one : normal.common_multiple 1 1 ≡ 1
unfolding gcd_of gcd_within
multiple_one = refl

pub denominator_one : (ks : List ℤ) → normal.common_denominator (map whole ks) ≡ 1
denominator_one [] = denominator_nil
denominator_one (k ∷ ks) = denominator_step (whole k) (map whole ks) ∙ ap (normal.common_multiple 1) (denominator_one ks) ∙ multiple_one

times_one : (k : ℤ) → normal.times 1 (whole k) ≡ k
times_one k = omega (arith, ints)

all_times_one : (ks : List ℤ) → map (normal.times 1) (map whole ks) ≡ ks
all_times_one [] = refl
all_times_one (k ∷ ks) = ap (λ (x : ℤ). x ∷ map (normal.times 1) (map whole ks)) (times_one k) ∙ ap (λ (xs : List ℤ). k ∷ xs) (all_times_one ks)

same_nonzero : (n : ℕ) (ks : List ℤ) → normal.nonzero_from n ks ≡ nonzero_from n ks
unfolding normal.nonzero_from
same_nonzero n [] = refl
same_nonzero n (k ∷ ks) =
    ap (λ (ts : List Term). cond (int_eq k (pos 0)) ts (record { var = n; coef = k } ∷ ts)) (same_nonzero (suc n) ks)

abbrev whole_row : List ℤ → ℤ → Row
whole_row ks right = record { terms = nonzero_from 0 ks; right = right }

pub row_times_one : (ks : List ℤ) (right : ℤ) → normal.row_times 1 (map whole ks) (whole right) ≡ whole_row ks right
row_times_one ks right =
    let terms : normal.nonzero_from 0 (map (normal.times 1) (map whole ks)) ≡ nonzero_from 0 ks = ap (normal.nonzero_from 0) (all_times_one ks) ∙ same_nonzero 0 ks in
    let side = times_one right in
    λ i. record { terms = terms i; right = side i }

-- ---- sizes

-- the size of terms, where no variable reaches farther than 1
nonzero_size : (reach_of : ℕ → ℕ) (ks : List ℤ) (n most : ℕ) → ((var : ℕ) → reach_of var ≡ 1) → All (λ k. unsigned_abs k ≤ most) ks → terms_size reach_of (nonzero_from n ks) ≤ length ks * most
nonzero_size reach_of [] n most one small = omega arith
nonzero_size reach_of (k ∷ ks) n most one small =
    let here = All-head (λ (k : ℤ). unsigned_abs k ≤ most) k ks small in
    let rest = nonzero_size reach_of ks (suc n) most one (All-tail (λ (k : ℤ). unsigned_abs k ≤ most) k ks small) in
    let passed : terms_size reach_of (nonzero_from (suc n) ks) ≤ suc (length ks) * most = omega arith in
    let put : unsigned_abs k * reach_of n + terms_size reach_of (nonzero_from (suc n) ks) ≤ suc (length ks) * most = omega (arith, ap (λ reach. unsigned_abs k * reach) (one n)) in
    elim (int_eq k (pos 0)) as (λ b. terms_size reach_of (cond b (nonzero_from (suc n) ks) (record { var = n; coef = k } ∷ nonzero_from (suc n) ks)) ≤ length (k ∷ ks) * most) [
      | true ↦ passed
      | false ↦ rw (sum_by-cons (λ (t : Term). unsigned_abs t.coef * reach_of t.var) (record { var = n; coef = k }) (nonzero_from (suc n) ks)) put
    ]

-- no variable reaches farther than 1
reach_one : (universal order : List (List ℕ)) (var : ℕ) → reach_in_vars (map (var_of universal) order) var ≡ 1
reach_one universal order var =
    rw (slice_get-map (var_of universal) order var) (elim (slice_get order var) as (λ o. option_map_or (λ (x : Var). reach x.low x.high) (option_map (var_of universal) o) 1 ≡ 1) [ None ↦ refl | Some name ↦ refl ])

filtered_small : (names : List (List ℕ)) (name : List ℕ) (written : List WrittenTerm) (terms : List AstTerm) (s : ℤ) → Both (TermIs names) written terms → unsigned_abs (sum_from s written name) ≤ unsigned_abs s + length written * 2 ^ 32
filtered_small names name [] [] s both = omega arith
filtered_small names name [] (t ∷ terms) s both = absurd both
filtered_small names name (w ∷ written) [] s both = absurd both
filtered_small names name (w ∷ written) (t ∷ terms) s both =
    let size : unsigned_abs (signed_factor w) ≡ w.factor = factor_size w.negative w.factor in
    let few = both.0.small in
    let grown = sum_size s (signed_factor w) in
    let with = filtered_small names name written terms (s +ℤ signed_factor w) both.1 in
    let without = filtered_small names name written terms s both.1 in
    let P : Bool → Type 0 = λ b. unsigned_abs (fold ◌+ℤ◌ s (map signed_factor (cond b (w ∷ filter (λ (t : WrittenTerm). bytes_eq t.name name) written) (filter (λ (t : WrittenTerm). bytes_eq t.name name) written)))) ≤ unsigned_abs s + length (w ∷ written) * 2 ^ 32 in
    elim (bytes_eq w.name name) as P [ true ↦ omega arith | false ↦ omega arith ]

pub terms_small : (names universal order : List (List ℕ)) (written : List WrittenTerm) (terms : List AstTerm) → Both (TermIs names) written terms → length written ≤ 2 ^ 64 → length order ≤ 100
    → terms_size (reach_in_vars (map (var_of universal) order)) (terms_of order written) ≤ 2 ^ 103
terms_small names universal order written terms both few few_names =
    let sums : All (λ (k : ℤ). unsigned_abs k ≤ 2 ^ 96) (map (total written) order) =
    All-map (λ (k : ℤ). unsigned_abs k ≤ 2 ^ 96) (total written) order (λ k d below. omega (arith, filtered_small names (get_or order k d) written terms (pos 0) both)) in
    let size = nonzero_size (reach_in_vars (map (var_of universal) order)) (map (total written) order) 0 (2 ^ 96) (reach_one universal order) sums in
    omega (arith, size, length-map order (total written))

-- ---- rows

narrow_test : (d size : ℕ) → d ≤ 2 ^ 126 → size ≤ 2 ^ 126 → (leb d (2 ^ 126) && leb size (2 ^ 126)) ≡ true
narrow_test d size p q = grind (arith, nat_tests)

-- a row of whole numbers that aren't too large is narrow as it is
pub narrow_whole : (vars : List Var) (ks : List ℤ) (right : ℤ) → row_size (reach_in_vars vars) (whole_row ks right) ≤ 2 ^ 126 → normal.narrow_row vars (map whole ks) (whole right) ≡ Some (whole_row ks right)
narrow_whole vars ks right small =
    let one : normal.common_denominator (whole right ∷ map whole ks) ≡ 1 = denominator_one (right ∷ ks) in
    let row = row_times_one ks right in
    let of : ℕ → Option Row = λ d. cond (normal.is_narrow vars d (normal.row_times d (map whole ks) (whole right))) (Some (normal.row_times d (map whole ks) (whole right))) None in
    ap of one
    ∙ ap (λ (r : Row). cond (normal.is_narrow vars 1 r) (Some r) None) row
    ∙ cond-true (normal.is_narrow vars 1 (whole_row ks right)) (Some (whole_row ks right)) None (narrow_test 1 _ (omega arith) small)

pub row_normal : (names universal order : List (List ℕ)) (list : List Named) (written : WrittenRow) (row : AstRow) → Both (NamedIs names) order list → RowIs names written row → length written.terms ≤ 2 ^ 64 → length order ≤ 100
    → normal.normal_row (map (var_of universal) order) list row.terms row.right ≡ Some (row_of order written)
row_normal names universal order list written row both is few few_names =
    let vars = map (var_of universal) order in
    let ks = map (total written.terms) order in
    let size = terms_small names universal order written.terms row.terms is.terms few few_names in
    let side = is.small in
    normal_row-totals vars list row.terms row.right (map whole ks) (totals_are names written.terms row.terms is.terms few order list both)
    ∙ ap (normal.narrow_row vars (map whole ks)) is.right
    ∙ narrow_whole vars ks written.right (omega arith)
