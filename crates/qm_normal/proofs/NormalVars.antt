-- The variables of the normal form, and which of them the uncertainty rows name.
use Rattle.std.proofs.Common.{◌≡◌, ◌≢◌, cond, ℕ, zero, suc, ◌+◌, ◌<◌, ◌/◌, ◌≤◌, ◌^◌, eqb, Bool, true, false, not, ◌&&◌, List, [], ◌∷◌, length, take, drop, refl, sym, ap, ◌∙◌, subst, arith, ℤ, pos, Ok, Option, Some, None, lit<}
use Rattle.std.specs.Prelude.{All, MatchOption, map, nat_le, slice_get, IsTrue}
use Rattle.std.specs.List.{flat_map}
use Rattle.std.specs.Ordering.{int_eq}
use Rattle.std.proofs.Math.IntN.{zero-*ℤ}
use Rattle.std.proofs.lemmas.Bool.{false_from_ne_true, false≢true}
use Rattle.std.proofs.lemmas.Bool.Decides.{Decides-eqb, Decides-int_eq, nat_tests}
use Rattle.std.proofs.lemmas.List.{drop_at, length-append, length-map, take-map, take_at}
use Rattle.std.proofs.lemmas.List.Elements.{All-cons, All-filter, All-head, All-map, All-nil, All-same, All-tail, filter_passes}
use Rattle.std.proofs.lemmas.List.Filters.{length-filter_both}
use Rattle.qm_math.specs.Fraction.{Fraction, whole}
use Rattle.qm_math.proofs.Lists.{all_left, all_right}
use Rattle.qm_frac.proofs.CheckedLaws.{and_then-ok}
use Rattle.qm_model.specs.declared.row.Row.{Row}
use Rattle.qm_model.specs.declared.variable.Player.{Player}
use Rattle.qm_model.specs.declared.variable.Player.TheVariants.{Exists, All as Universal}
use Rattle.qm_model.specs.declared.variable.Var.{Var}
use Rattle.qm_model.specs.Plays as plays
use Rattle.qm_model.specs.Sound.{IsContinuous, IsOverUniversal, IsWhole}
use Rattle.qm_parse.specs.declared.ast.Ast.{Ast}
use Rattle.qm_parse.specs.declared.ast.AstRow.{AstRow}
use Rattle.qm_parse.specs.declared.ast.AstTerm.{AstTerm}
use Rattle.qm_parse.specs.declared.ast.Named.{Named}
use Rattle.qm_parse.specs.Checks.{first_such, row_uses, term_use, term_uses}
use Rattle.qm_normal.specs.declared.fault.NormalFault.{NormalFault}
use Rattle.qm_normal.specs.declared.fault.NormalFault.TheVariants as fault
use Rattle.qm_normal.specs.Limits.{domain_fault, large_domain, rows_fault, variables_fault}
use Rattle.qm_normal.specs.Rows.{common_denominator, is_of, nonzero_from, normal_row, times, total, total_from, totals}
use Rattle.qm_normal.specs.Scopes.{continuous_early, continuous_universal, exists_in_uncertainty, scope_fault, told}
use Rattle.qm_normal.specs.Variables.{continuous_names, game_order, is_universal, is_whole, var_of, vars_of, whole_names}
use Rattle.qm_normal.proofs.NormalSteps.{row_parts}
use Rattle.qm_normal.proofs.NormalTerms.{in_front, nonzero_from-cons, nonzero_from-nil}

-- ---- what was not found

not_told : (kind : List ℕ → _ → NormalFault) (ast : Ast) (found : Option Named) (next : Option NormalFault) → told kind ast found next ≡ None → (found ≡ None) × (next ≡ None)
unfolding told
not_told kind ast None next h = (refl, h)
not_told kind ast (Some named) next h = absurd (cc)

passed_over : (b : Bool) (named : Named) (rest : Option Named) → cond b (Some named) rest ≡ None → (b ≡ false) × (rest ≡ None)
passed_over true named rest h = absurd (cc)
passed_over false named rest h = (refl, h)

pub none_such : (test : Named → Bool) (list : List Named) → first_such test list ≡ None → All (λ named. test named ≡ false) list
unfolding first_such
none_such test [] h = All-nil (λ named. test named ≡ false)
none_such test (named ∷ list) h =
    let here = passed_over (test named) named (first_such test list) h in
    All-cons (λ named. test named ≡ false) named list here.0 (none_such test list here.1)

-- ---- how many

not_more : (b : Bool) (rest : Option NormalFault) (many : NormalFault) → cond b rest (Some many) ≡ None → b ≡ true
not_more true rest many h = refl
not_more false rest many h = absurd (cc)

more : (b : Bool) (rest : Option NormalFault) (many : NormalFault) → cond (not b) (Some many) rest ≡ None → b ≡ true
more true rest many h = refl
more false rest many h = absurd (cc)

length-vars : (ast : Ast) → length (vars_of ast) ≡ length ast.order
length-vars ast =
    length-map (game_order ast) (var_of ast)
    ∙ length-append (whole_names ast) (continuous_names ast)
    ∙ length-filter_both (λ (named : Named). is_whole ast named.name) (λ (named : Named). not (is_whole ast named.name)) (λ named. refl) ast.order

pub few_vars : (ast : Ast) → variables_fault ast ≡ None → length (vars_of ast) < 2 ^ 29
few_vars ast h =
    let test = not_more (nat_le (length ast.order) 1000) (domain_fault ast (large_domain ast)) _ h in
    let few : length ast.order ≤ 1000 = grind (arith, nat_tests, test) in
    let large : 1000 < 2 ^ 29 = lit< tt in
    omega (arith, few, large, length-vars ast)

pub few_rows : (rows urows : List Row) → rows_fault rows urows ≡ None → (length rows < 2 ^ 29) × (length urows < 2 ^ 29)
few_rows rows urows h =
    let test = more (nat_le (length rows + length urows) 2000) _ _ h in
    let few : length rows + length urows ≤ 2000 = grind (arith, nat_tests, test) in
    let large : 2000 < 2 ^ 29 = lit< tt in
    (omega (arith, few, large), omega (arith, few, large))

-- each variable of the list of whole and of continuous ones has its number
pub whole_and_continuous : (ast : Ast) → length (whole_names ast) + length (continuous_names ast) ≡ length (vars_of ast)
whole_and_continuous ast = sym (length-map (game_order ast) (var_of ast) ∙ length-append (whole_names ast) (continuous_names ast))

-- ---- whole and continuous

pub whole_first : (ast : Ast) → All IsWhole (take (length (whole_names ast)) (vars_of ast))
whole_first ast =
    let test : Named → Bool = λ named. is_whole ast named.name in
    let same : take (length (whole_names ast)) (vars_of ast) ≡ map (var_of ast) (whole_names ast) =
    take-map (var_of ast) (length (whole_names ast)) (game_order ast) ∙ ap (map (var_of ast)) (take_at (whole_names ast) (continuous_names ast) (length (whole_names ast)) refl) in
    All-same IsWhole (take (length (whole_names ast)) (vars_of ast)) (map (var_of ast) (whole_names ast)) same (All-map IsWhole (var_of ast) (whole_names ast) (filter_passes test ast.order))

drop-map' : (f : Named → Var) (n : ℕ) (xs : List Named) → drop n (map f xs) ≡ map f (drop n xs)
drop-map' f zero xs = refl
drop-map' f (suc n) [] = refl
drop-map' f (suc n) (x ∷ xs) = drop-map' f n xs

continuous_var : (is_whole universal : Bool) → not is_whole ≡ true → (not is_whole && universal) ≡ false → (is_whole ≡ false) × ((let p : Player = cond universal Universal Exists in p) ≡ Exists)
continuous_var true universal h k = absurd (cc)
continuous_var false true h k = absurd (cc)
continuous_var false false h k = (refl, refl)

pub continuous_last : (ast : Ast) → scope_fault ast ≡ None → All IsContinuous (drop (length (whole_names ast)) (vars_of ast))
continuous_last ast h =
    let test : Named → Bool = λ named. not (is_whole ast named.name) in
    let bad : Named → Bool = λ named. not (is_whole ast named.name) && is_universal ast named.name in
    let none = none_such bad ast.order (not_told fault.ContinuousUniversal ast (continuous_universal ast) _ h).0 in
    let good = All-filter test (λ named. bad named ≡ false) ast.order none in
    let passes = filter_passes test ast.order in
    let each : All (λ named. IsContinuous (var_of ast named)) (continuous_names ast) =
    λ k d inside. continuous_var _ _ (passes k d inside) (good k d inside) in
    let same : drop (length (whole_names ast)) (vars_of ast) ≡ map (var_of ast) (continuous_names ast) =
    drop-map' (var_of ast) (length (whole_names ast)) (game_order ast) ∙ ap (map (var_of ast)) (drop_at (whole_names ast) (continuous_names ast) (length (whole_names ast)) refl) in
    All-same IsContinuous (drop (length (whole_names ast)) (vars_of ast)) (map (var_of ast) (continuous_names ast)) same (All-map IsContinuous (var_of ast) (continuous_names ast) each)

-- ---- universal terms

pub all_parts : {A B : Type 0} (Q : B → Type 0) (f : A → List B) (list : List A) → All Q (flat_map f list) → All (λ x. All Q (f x)) list
all_parts Q f [] all = All-nil (λ x. All Q (f x))
all_parts Q f (x ∷ list) all =
    All-cons (λ x. All Q (f x)) x list (all_left Q (f x) (flat_map f list) all) (all_parts Q f list (all_right Q (f x) (flat_map f list) all))

abbrev IsSetUniversally : Ast → Named → Type 0
IsSetUniversally ast named = not (is_universal ast named.name) ≡ false

-- the term is not of a variable that isn't universal
abbrev pub NamesUniversal : Ast → AstTerm → Type 0
NamesUniversal ast term = (name : ℕ) → is_universal ast name ≡ false → is_of name term ≡ false

other_name : (ast : Ast) (n name : ℕ) → not (is_universal ast n) ≡ false → is_universal ast name ≡ false → eqb n name ≡ false
other_name ast n name set free =
    false_from_ne_true (eqb n name) (λ same.
    let e = (Decides-eqb n name).0 same in
    let all : is_universal ast n ≡ false = subst (λ m. is_universal ast m ≡ false) (sym e) free in
    false≢true (sym set ∙ ap not all))

universal_term : (ast : Ast) (term : AstTerm) → All (IsSetUniversally ast) (term_use term) → NamesUniversal ast term
unfolding term_use
universal_term ast term all name free =
    elim term.name as (λ (o : Option ℕ). All (IsSetUniversally ast) (elim o as (λ _. List Named) [ None ↦ [] | Some n ↦ record { name = n; at = term.at } ∷ [] ]) → (elim o as (λ _. Bool) [ None ↦ false | Some n ↦ eqb n name ]) ≡ false) [
      | None ↦ λ _. refl
      | Some n ↦ λ uses. other_name ast n name (All-head (IsSetUniversally ast) (record { name = n; at = term.at }) [] uses) free
    ] all

pub universal_rows : (ast : Ast) → scope_fault ast ≡ None → All (λ row. All (NamesUniversal ast) row.terms) ast.uncertain
universal_rows ast h =
    let early = (not_told fault.ContinuousUniversal ast (continuous_universal ast) _ h).1 in
    let exists = (not_told fault.ContinuousEarly ast (continuous_early ast) _ early).1 in
    let none = none_such (λ named. not (is_universal ast named.name)) (row_uses ast.uncertain) (not_told fault.ExistsInUncertainty ast (exists_in_uncertainty ast) None exists).0 in
    let rows = all_parts (IsSetUniversally ast) (λ (row : AstRow). term_uses row.terms) ast.uncertain none in
    λ k d inside. (λ i e within. universal_term ast _ (all_parts (IsSetUniversally ast) term_use _ (rows k d inside) i e within))

-- where no term passes nothing is added
none_added : (test : AstTerm → Bool) (terms : List AstTerm) (sum : Fraction) → All (λ term. test term ≡ false) terms → total_from test terms sum ≡ Ok sum
unfolding total_from
none_added test [] sum none = refl
none_added test (term ∷ terms) sum none =
    rw (All-head (λ (t : AstTerm). test t ≡ false) term terms none) (none_added test terms sum (All-tail (λ (t : AstTerm). test t ≡ false) term terms none))

-- a variable with a coefficient is universal
universal_sum : (ast : Ast) (terms : List AstTerm) (name d : ℕ) (sum : Fraction) → All (NamesUniversal ast) terms → total (is_of name) terms ≡ Ok sum → times d sum ≢ pos 0 → (b : Bool) → is_universal ast name ≡ b → b ≡ true
universal_sum ast terms name d sum all h some true is = refl
universal_sum ast terms name d sum all h some false is =
    let none = none_added (is_of name) terms (whole (pos 0)) (λ k e inside. all k e inside name is) in
    let zero_sum : whole (pos 0) ≡ sum = cc in
    absurd (some (subst (λ (s : Fraction). times d s ≡ pos 0) zero_sum (zero-*ℤ (pos (d / 1)))))

universal_var : (ast : Ast) (named : Named) → is_universal ast named.name ≡ true → IsTrue (plays.is_universal (var_of ast named))
universal_var ast named is = rw is refl

over_universal : (xs : List Var) (var : ℕ) (coef : ℤ) (x : Var) → slice_get xs var ≡ Some x → IsTrue (plays.is_universal x) → IsOverUniversal xs (record { var = var; coef = coef })
over_universal xs var coef x is universal = subst (λ (o : Option Var). MatchOption o ⊥ (λ x. IsTrue (plays.is_universal x))) (sym is) universal

universal_terms : (ast : Ast) (terms : List AstTerm) (d : ℕ) (xs : List Var) → All (NamesUniversal ast) terms → (order : List Named) (sums : List Fraction) (n : ℕ) → totals order terms ≡ Ok sums
    → ((i : ℕ) → slice_get xs (n + i) ≡ slice_get (map (var_of ast) order) i) → All (IsOverUniversal xs) (nonzero_from n (map (times d) sums))
unfolding totals
universal_terms ast terms d xs all [] sums n h same =
    let e : [] ≡ sums = cc in
    subst (λ (ss : List Fraction). All (IsOverUniversal xs) (nonzero_from n (map (times d) ss))) e (subst (All (IsOverUniversal xs)) (sym (nonzero_from-nil n)) (All-nil (IsOverUniversal xs)))
universal_terms ast terms d xs all (named ∷ order) sums n h same =
    let here = and_then-ok (total (is_of named.name) terms) _ sums h in
    let others = and_then-ok (totals order terms) _ sums here.2 in
    let e : here.0 ∷ others.0 ≡ sums = cc in
    let k = times d here.0 in
    let ks = map (times d) others.0 in
    let rest = universal_terms ast terms d xs all order others.0 (suc n) others.1 (λ i. ap (slice_get xs) (let f : suc n + i ≡ n + suc i = omega arith in f) ∙ same (suc i)) in
    let place : slice_get xs n ≡ Some (var_of ast named) = ap (slice_get xs) (let f : n ≡ n + 0 = omega arith in f) ∙ same 0 in
    let P = λ (b : Bool). (int_eq k (pos 0) ≡ b) → All (IsOverUniversal xs) (in_front n k ks b) in
    let found : All (IsOverUniversal xs) (in_front n k ks (int_eq k (pos 0))) =
    elim (int_eq k (pos 0)) as P [
      | true ↦ λ is. rest
      | false ↦ λ is. All-cons (IsOverUniversal xs) (record { var = n; coef = k }) (nonzero_from (suc n) ks)
          (over_universal xs n k (var_of ast named) place (universal_var ast named
          (let u = universal_sum ast terms named.name d here.0 all here.1 (λ zero. false≢true (sym is ∙ (Decides-int_eq k (pos 0)).1 zero)) (is_universal ast named.name) refl in u))) rest
    ] refl in
    subst (λ (ss : List Fraction). All (IsOverUniversal xs) (nonzero_from n (map (times d) ss))) e (subst (All (IsOverUniversal xs)) (sym (nonzero_from-cons n k ks)) found)

-- a row of terms of universal variables names universal ones
pub universal_row : (ast : Ast) (terms : List AstTerm) (right : Fraction) (row : Row) → All (NamesUniversal ast) terms → normal_row (vars_of ast) (game_order ast) terms right ≡ Some row → All (IsOverUniversal (vars_of ast)) row.terms
universal_row ast terms right row all h =
    let parts = row_parts (vars_of ast) (game_order ast) terms right row h in
    let d = common_denominator (right ∷ parts.sums) in
    subst (λ (r : Row). All (IsOverUniversal (vars_of ast)) r.terms) parts.row_is
    (universal_terms ast terms d (vars_of ast) all (game_order ast) parts.sums 0 parts.sums_are (λ i. ap (slice_get (vars_of ast)) (let f : 0 + i ≡ i = omega arith in f)))
