-- What the terms of a text come to, added up by their names.
use Rattle.std.proofs.Common.{◌≡◌, ◌≢◌, cond, ℕ, ◌<◌, eqb, Bool, true, false, not, ◌||◌, List, [], ◌∷◌, ◌++◌, get_or, refl, sym, ap, ◌∙◌, subst, lit<, pos, Ok, Option, Some, None}
use Rattle.std.specs.Prelude.{All, AllPairs, filter}
use Rattle.std.proofs.lemmas.Bool.{false_from_ne_true, false≢true}
use Rattle.std.proofs.lemmas.Bool.Decides.{Decides-eqb}
use Rattle.std.proofs.lemmas.List.Elements.{All-head, All-tail}
use Rattle.qm_math.specs.Fraction.{Fraction, IsSame, whole}
use Rattle.qm_math.specs.Arithmetic.{product_of, sum_of}
use Rattle.qm_math.specs.Totals.{total_of}
use Rattle.qm_math.proofs.Polynomials.{number, ◌⊕◌}
use Rattle.qm_math.proofs.Ring.{x0, x1, x2, x3, x4}
use Rattle.qm_math.proofs.FractionLaws.{product_of_den, same_refl, same_sym, same_trans, sum_of-same, sum_of-zero, sum_of_den, whole_den, zero-product_of, zero-sum_of}
use Rattle.qm_math.proofs.FractionLinear.{same_given}
use Rattle.qm_math.proofs.Totals.{total_of-append, total_of-product_of, total_of-same, total_of-sum_of, total_of_den, total_of_exchange}
use Rattle.qm_frac.specs.Checked.{added, and_then}
use Rattle.qm_frac.proofs.CheckedLaws.{IsFrac-added, added-value, and_then-ok}
use Rattle.qm_parse.specs.declared.ast.Ast.{Ast}
use Rattle.qm_parse.specs.declared.ast.AstTerm.{AstTerm}
use Rattle.qm_parse.specs.declared.ast.Named.{Named}
use Rattle.qm_parse.specs.Checks.{has_name}
use Rattle.qm_parse.proofs.OnceOnly.{AllPairs-head, AllPairs-tail}
use Rattle.qm_normal.specs.Meaning.{term_value, written_value}
use Rattle.qm_normal.specs.Numbers.{IsProperTerm}
use Rattle.qm_normal.specs.Rows.{is_constant, is_of, total, total_from}
use Rattle.qm_normal.specs.Variables.{continuous_names, game_order, is_whole, whole_names}
use Rattle.qm_normal.proofs.NormalDens.{total_den}

-- ---- sums of the terms that a test accepts

abbrev pub coef_if : (AstTerm → Bool) → AstTerm → Fraction
coef_if test term = cond (test term) term.coef (whole (pos 0))

chosen_den : (b : Bool) (one : Fraction) → 0 < one.den → 0 < (cond b one (whole (pos 0))).den
chosen_den true one some = some
chosen_den false one some = lit< tt

pub coef_if_den : (test : AstTerm → Bool) (term : AstTerm) → 0 < term.coef.den → 0 < (coef_if test term).den
coef_if_den test term some = chosen_den (test term) term.coef some

pub coefs_den : (test : AstTerm → Bool) (terms : List AstTerm) → All IsProperTerm terms → 0 < (total_of (coef_if test) terms).den
coefs_den test terms proper = total_of_den (coef_if test) terms (λ k d inside. coef_if_den test (get_or terms k d) (proper k d inside))

pub total_value : (test : AstTerm → Bool) (terms : List AstTerm) (sum r : Fraction) → All IsProperTerm terms → 0 < sum.den → total_from test terms sum ≡ Ok r → IsSame r (sum_of sum (total_of (coef_if test) terms))
unfolding total_from
total_value test [] sum r proper some h =
    let e : sum ≡ r = cc in subst (λ (s : Fraction). IsSame s (sum_of sum (whole (pos 0)))) e (same_sym (sum_of sum (whole (pos 0))) sum (sum_of-zero sum))
total_value test (term ∷ terms) sum r proper some h =
    let rest = All-tail IsProperTerm term terms proper in
    let here = All-head IsProperTerm term terms proper in
    let t = total_of (coef_if test) terms in
    let t_den = coefs_den test terms rest in
    elim (test term) as (λ b. cond b (and_then (added sum term.coef) (total_from test terms)) (total_from test terms sum) ≡ Ok r → IsSame r (sum_of sum (sum_of (cond b term.coef (whole (pos 0))) t))) [
      | true ↦ λ e.
          let step = and_then-ok (added sum term.coef) (total_from test terms) r e in
          let s_den = (IsFrac-added sum term.coef step.0 some here step.1).positive in
          let later = total_value test terms step.0 r rest s_den step.2 in
          let r_den = total_den test terms step.0 r rest s_den step.2 in
          same_given (r ∷ step.0 ∷ sum ∷ term.coef ∷ t ∷ []) x0 (x2 ⊕ (x3 ⊕ x4)) ((number (pos 1), x0, x1 ⊕ x4) ∷ (number (pos 1), x1, x2 ⊕ x3) ∷ [])
          (r_den, (s_den, (some, (here, (t_den, tt))))) (later, (added-value sum term.coef step.0 step.1, tt)) refl
      | false ↦ λ e.
          let later = total_value test terms sum r rest some e in
          let r_den = total_den test terms sum r rest some e in
          same_given (r ∷ sum ∷ t ∷ []) x0 (x1 ⊕ (number (pos 0) ⊕ x2)) ((number (pos 1), x0, x1 ⊕ x2) ∷ []) (r_den, (some, (t_den, tt))) (later, tt) refl
    ] h

-- the sum from 0 on
pub total_is : (test : AstTerm → Bool) (terms : List AstTerm) (r : Fraction) → All IsProperTerm terms → total test terms ≡ Ok r → IsSame r (total_of (coef_if test) terms)
total_is test terms r proper h =
    let t = total_of (coef_if test) terms in
    same_trans r (sum_of (whole (pos 0)) t) t (sum_of_den (whole (pos 0)) t (whole_den (pos 0)) (coefs_den test terms proper))
    (total_value test terms (whole (pos 0)) r proper (lit< tt) h) (zero-sum_of t)

-- ---- one term, spread over the names

abbrev pub part_of : (ℕ → Fraction) → AstTerm → Named → Fraction
part_of value term named = product_of (coef_if (is_of named.name) term) (value named.name)

abbrev pub HasPositiveValues : (ℕ → Fraction) → Type 0
HasPositiveValues value = (name : ℕ) → 0 < (value name).den

both_zero : (p t : Fraction) → IsSame p (whole (pos 0)) → IsSame t (whole (pos 0)) → IsSame (sum_of p t) (whole (pos 0))
both_zero p t h k =
    same_trans (sum_of p t) (sum_of (whole (pos 0)) (whole (pos 0))) (whole (pos 0)) (sum_of_den (whole (pos 0)) (whole (pos 0)) (whole_den (pos 0)) (whole_den (pos 0)))
    (sum_of-same p t (whole (pos 0)) (whole (pos 0)) h k) (zero-sum_of (whole (pos 0)))

no_part : (b : Bool) (coef v : Fraction) → b ≡ false → IsSame (product_of (cond b coef (whole (pos 0))) v) (whole (pos 0))
no_part true coef v e = absurd (false≢true (sym e))
no_part false coef v e = zero-product_of v

parts_none : (value : ℕ → Fraction) (term : AstTerm) (order : List Named) → All (λ named. is_of named.name term ≡ false) order → IsSame (total_of (part_of value term) order) (whole (pos 0))
parts_none value term [] none = same_refl (whole (pos 0))
parts_none value term (named ∷ order) none =
    let Q = λ (other : Named). is_of other.name term ≡ false in
    both_zero (part_of value term named) (total_of (part_of value term) order)
    (no_part (is_of named.name term) term.coef (value named.name) (All-head Q named order none))
    (parts_none value term order (All-tail Q named order none))

is_of_some : (term : AstTerm) (n name : ℕ) (b : Bool) → term.name ≡ Some n → eqb n name ≡ b → is_of name term ≡ b
is_of_some term n name b e h = subst (λ (o : Option ℕ). (let z : Bool = elim o [ None ↦ false | Some other ↦ eqb other name ] in z) ≡ b) (sym e) h

is_of_none : (term : AstTerm) (name : ℕ) → term.name ≡ None → is_of name term ≡ false
is_of_none term name e = subst (λ (o : Option ℕ). (let z : Bool = elim o [ None ↦ false | Some other ↦ eqb other name ] in z) ≡ false) (sym e) refl

not_same : (n m : ℕ) → n ≢ m → eqb n m ≡ false
not_same n m h = false_from_ne_true (eqb n m) (λ e. h ((Decides-eqb n m).0 e))

this_part : (b : Bool) (coef v : Fraction) → b ≡ true → product_of (cond b coef (whole (pos 0))) v ≡ product_of coef v
this_part true coef v e = refl
this_part false coef v e = absurd (false≢true e)

plus_zero : (p t : Fraction) → IsSame t (whole (pos 0)) → 0 < p.den → IsSame (sum_of p t) p
plus_zero p t h some =
    same_trans (sum_of p t) (sum_of p (whole (pos 0))) p (sum_of_den p (whole (pos 0)) some (whole_den (pos 0)))
    (sum_of-same p t p (whole (pos 0)) (same_refl p) h) (sum_of-zero p)

zero_plus : (p t q : Fraction) → IsSame p (whole (pos 0)) → 0 < q.den → IsSame t q → IsSame (sum_of p t) q
zero_plus p t q h some k =
    same_trans (sum_of p t) (sum_of (whole (pos 0)) q) q (sum_of_den (whole (pos 0)) q (whole_den (pos 0)) some)
    (sum_of-same p t (whole (pos 0)) q h k) (zero-sum_of q)

found_later : (a b : Bool) → (a || b) ≡ true → a ≡ false → b ≡ true
found_later true b h e = absurd (false≢true (sym e))
found_later false b h e = h

parts_single : (value : ℕ → Fraction) → HasPositiveValues value → (term : AstTerm) (n : ℕ) → term.name ≡ Some n → 0 < term.coef.den
    → (order : List Named) → AllPairs (λ one other. one.name ≢ other.name) order → has_name order n ≡ true → IsSame (total_of (part_of value term) order) (product_of term.coef (value n))
parts_single value positive term n e some [] once has = absurd (false≢true has)
parts_single value positive term n e some (named ∷ order) once has =
    let Apart : Named → Named → Type 0 = λ one other. one.name ≢ other.name in
    let others = AllPairs-head Apart named order once in
    let later = AllPairs-tail Apart named order once in
    let rest = total_of (part_of value term) order in
    elim (eqb named.name n) as (λ b. (eqb named.name n ≡ b) → IsSame (sum_of (part_of value term named) rest) (product_of term.coef (value n))) [
      | true ↦ λ t.
          let same : named.name ≡ n = (Decides-eqb named.name n).0 t in
          let here : part_of value term named ≡ product_of term.coef (value n) =
          this_part (is_of named.name term) term.coef (value named.name) (is_of_some term n named.name true e ((Decides-eqb n named.name).1 (sym same))) ∙ ap (λ (m : ℕ). product_of term.coef (value m)) same in
          let none : IsSame rest (whole (pos 0)) = parts_none value term order (λ k d inside. is_of_some term n (get_or order k d).name false e (not_same n (get_or order k d).name (λ eq. others k d inside (same ∙ eq)))) in
          subst (λ (p : Fraction). IsSame (sum_of p rest) (product_of term.coef (value n))) (sym here)
          (plus_zero (product_of term.coef (value n)) rest none (product_of_den term.coef (value n) some (positive n)))
      | false ↦ λ f.
          let other : is_of named.name term ≡ false = is_of_some term n named.name false e (not_same n named.name (λ eq. false≢true (sym f ∙ (Decides-eqb named.name n).1 (sym eq)))) in
          zero_plus (part_of value term named) rest (product_of term.coef (value n)) (no_part (is_of named.name term) term.coef (value named.name) other)
          (product_of_den term.coef (value n) some (positive n))
          (parts_single value positive term n e some order later (found_later (eqb named.name n) (has_name order n) has f))
    ] refl

part_den : (value : ℕ → Fraction) → HasPositiveValues value → (term : AstTerm) (named : Named) → 0 < term.coef.den → 0 < (part_of value term named).den
part_den value positive term named some = product_of_den (coef_if (is_of named.name) term) (value named.name) (coef_if_den (is_of named.name) term some) (positive named.name)

parts_den : (value : ℕ → Fraction) → HasPositiveValues value → (term : AstTerm) (order : List Named) → 0 < term.coef.den → 0 < (total_of (part_of value term) order).den
parts_den value positive term order some = total_of_den (part_of value term) order (λ i e within. part_den value positive term (get_or order i e) some)

-- a term is its parts and its constant
abbrev pub IsOrderedTerm : List Named → AstTerm → Type 0
IsOrderedTerm order term = (n : ℕ) → term.name ≡ Some n → has_name order n ≡ true

abbrev split_of : (ℕ → Fraction) → List Named → AstTerm → Fraction
split_of value order term = sum_of (total_of (part_of value term) order) (coef_if is_constant term)

abbrev pub value_by : (ℕ → Fraction) → Fraction → Option ℕ → Fraction
value_by value coef None = coef
value_by value coef (Some n) = product_of coef (value n)

pub term_value_is : (value : ℕ → Fraction) (term : AstTerm) (o : Option ℕ) → term.name ≡ o → value_by value term.coef o ≡ term_value value term
term_value_is value term None e = subst (λ (o : Option ℕ). term.coef ≡ (let z : Fraction = elim o [ None ↦ term.coef | Some name ↦ product_of term.coef (value name) ] in z)) (sym e) refl
term_value_is value term (Some n) e = subst (λ (o : Option ℕ). product_of term.coef (value n) ≡ (let z : Fraction = elim o [ None ↦ term.coef | Some name ↦ product_of term.coef (value name) ] in z)) (sym e) refl

abbrev pub no_name : Option ℕ → Bool
no_name None = true
no_name (Some n) = false

pub constant_is : (term : AstTerm) (o : Option ℕ) → term.name ≡ o → is_constant term ≡ no_name o
constant_is term None e = subst (λ (o : Option ℕ). (let z : Bool = elim o [ None ↦ true | Some other ↦ false ] in z) ≡ true) (sym e) refl
constant_is term (Some n) e = subst (λ (o : Option ℕ). (let z : Bool = elim o [ None ↦ true | Some other ↦ false ] in z) ≡ false) (sym e) refl

term_split : (value : ℕ → Fraction) → HasPositiveValues value → (order : List Named) → AllPairs (λ one other. one.name ≢ other.name) order
    → (term : AstTerm) → 0 < term.coef.den → IsOrderedTerm order term → (o : Option ℕ) → term.name ≡ o → IsSame (term_value value term) (split_of value order term)
term_split value positive order once term some ordered None e =
    let s = total_of (part_of value term) order in
    let none : IsSame s (whole (pos 0)) = parts_none value term order (λ k d inside. is_of_none term (get_or order k d).name e) in
    let c : coef_if is_constant term ≡ term.coef = ap (λ b. cond b term.coef (whole (pos 0))) (constant_is term None e) in
    let whole_split : IsSame (sum_of s term.coef) term.coef = zero_plus s term.coef term.coef none some (same_refl term.coef) in
    subst (λ (v : Fraction). IsSame v (split_of value order term)) (term_value_is value term None e)
    (subst (λ (k : Fraction). IsSame term.coef (sum_of s k)) (sym c) (same_sym (sum_of s term.coef) term.coef whole_split))
term_split value positive order once term some ordered (Some n) e =
    let s = total_of (part_of value term) order in
    let p = product_of term.coef (value n) in
    let p_den = product_of_den term.coef (value n) some (positive n) in
    let is : IsSame s p = parts_single value positive term n e some order once (ordered n e) in
    let c : coef_if is_constant term ≡ whole (pos 0) = ap (λ b. cond b term.coef (whole (pos 0))) (constant_is term (Some n) e) in
    let sum_is : IsSame (sum_of s (whole (pos 0))) p =
    same_trans (sum_of s (whole (pos 0))) (sum_of p (whole (pos 0))) p (sum_of_den p (whole (pos 0)) p_den (whole_den (pos 0)))
    (sum_of-same s (whole (pos 0)) p (whole (pos 0)) is (same_refl (whole (pos 0)))) (sum_of-zero p) in
    subst (λ (v : Fraction). IsSame v (split_of value order term)) (term_value_is value term (Some n) e)
    (subst (λ (k : Fraction). IsSame p (sum_of s k)) (sym c) (same_sym (sum_of s (whole (pos 0))) p sum_is))

-- ---- all terms, by names

abbrev pub by_name : (ℕ → Fraction) → List AstTerm → Named → Fraction
by_name value terms named = product_of (total_of (coef_if (is_of named.name)) terms) (value named.name)

pub by_name_den : (value : ℕ → Fraction) → HasPositiveValues value → (terms : List AstTerm) (named : Named) → All IsProperTerm terms → 0 < (by_name value terms named).den
by_name_den value positive terms named proper = product_of_den (total_of (coef_if (is_of named.name)) terms) (value named.name) (coefs_den (is_of named.name) terms proper) (positive named.name)

pub value_by_names : (value : ℕ → Fraction) → HasPositiveValues value → (order : List Named) → AllPairs (λ one other. one.name ≢ other.name) order
    → (terms : List AstTerm) → All IsProperTerm terms → All (IsOrderedTerm order) terms
    → IsSame (written_value value terms) (sum_of (total_of (by_name value terms) order) (total_of (coef_if is_constant) terms))
value_by_names value positive order once terms proper ordered =
    let a : AstTerm → Fraction = λ term. total_of (part_of value term) order in
    let c = coef_if is_constant in
    let turned : Named → Fraction = λ named. total_of (λ term. part_of value term named) terms in
    let constants = total_of c terms in
    let c_den = coefs_den is_constant terms proper in
    let a_den : 0 < (total_of a terms).den = total_of_den a terms (λ k d inside. parts_den value positive (get_or terms k d) order (proper k d inside)) in
    let turned_each : (named : Named) → 0 < (turned named).den = λ named. total_of_den (λ term. part_of value term named) terms (λ k d inside. part_den value positive (get_or terms k d) named (proper k d inside)) in
    let turned_den : 0 < (total_of turned order).den = total_of_den turned order (λ k d inside. turned_each (get_or order k d)) in
    let split : IsSame (written_value value terms) (total_of (λ term. sum_of (a term) (c term)) terms) =
    total_of-same (term_value value) (λ term. sum_of (a term) (c term)) terms (λ k d inside. term_split value positive order once (get_or terms k d) (proper k d inside) (ordered k d inside) (get_or terms k d).name refl) in
    let split_den : 0 < (total_of (λ term. sum_of (a term) (c term)) terms).den =
    total_of_den (λ term. sum_of (a term) (c term)) terms (λ k d inside.
    sum_of_den (a (get_or terms k d)) (c (get_or terms k d)) (parts_den value positive (get_or terms k d) order (proper k d inside)) (coef_if_den is_constant (get_or terms k d) (proper k d inside))) in
    let parted : IsSame (total_of (λ term. sum_of (a term) (c term)) terms) (sum_of (total_of a terms) constants) = total_of-sum_of a c terms in
    let exchanged : IsSame (total_of a terms) (total_of turned order) =
    total_of_exchange (part_of value) terms order (λ k d inside. (λ i e within. part_den value positive (get_or terms k d) (get_or order i e) (proper k d inside))) in
    let factored : IsSame (total_of turned order) (total_of (by_name value terms) order) =
    total_of-same turned (by_name value terms) order (λ k d inside.
    let named = get_or order k d in
    same_sym (by_name value terms named) (turned named)
    (total_of-product_of (value named.name) (coef_if (is_of named.name)) terms (positive named.name) (λ i e within. coef_if_den (is_of named.name) (get_or terms i e) (proper i e within)))) in
    let names : IsSame (total_of a terms) (total_of (by_name value terms) order) = same_trans (total_of a terms) (total_of turned order) (total_of (by_name value terms) order) turned_den exchanged factored in
    same_trans (written_value value terms) (total_of (λ term. sum_of (a term) (c term)) terms) (sum_of (total_of (by_name value terms) order) constants) split_den split
    (same_trans (total_of (λ term. sum_of (a term) (c term)) terms) (sum_of (total_of a terms) constants) (sum_of (total_of (by_name value terms) order) constants)
    (sum_of_den (total_of a terms) constants a_den c_den) parted
    (sum_of-same (total_of a terms) constants (total_of (by_name value terms) order) constants names (same_refl constants)))

-- ---- in game order

filtered : {A : Type 0} (f : A → Fraction) (test : A → Bool) (xs : List A) → ((x : A) → 0 < (f x).den)
    → IsSame (sum_of (total_of f (filter test xs)) (total_of f (filter (λ x. not (test x)) xs))) (total_of f xs)
filtered f test [] some = zero-sum_of (whole (pos 0))
filtered f test (x ∷ xs) some =
    let other : _ → Bool = λ y. not (test y) in
    let a = total_of f (filter test xs) in
    let b = total_of f (filter other xs) in
    let t = total_of f xs in
    let a_den = total_of_den f (filter test xs) (λ k d inside. some (get_or (filter test xs) k d)) in
    let b_den = total_of_den f (filter other xs) (λ k d inside. some (get_or (filter other xs) k d)) in
    let t_den = total_of_den f xs (λ k d inside. some (get_or xs k d)) in
    let rest = filtered f test xs some in
    elim (test x) as (λ c. IsSame (sum_of (total_of f (cond c (x ∷ filter test xs) (filter test xs))) (total_of f (cond (not c) (x ∷ filter other xs) (filter other xs)))) (sum_of (f x) t)) [
      | true ↦ same_given (f x ∷ a ∷ b ∷ t ∷ []) (x0 ⊕ x1 ⊕ x2) (x0 ⊕ x3) ((number (pos 1), x1 ⊕ x2, x3) ∷ []) (some x, (a_den, (b_den, (t_den, tt)))) (rest, tt) refl
      | false ↦ same_given (f x ∷ a ∷ b ∷ t ∷ []) (x1 ⊕ (x0 ⊕ x2)) (x0 ⊕ x3) ((number (pos 1), x1 ⊕ x2, x3) ∷ []) (some x, (a_den, (b_den, (t_den, tt)))) (rest, tt) refl
    ]

pub in_order : (ast : Ast) (f : Named → Fraction) → ((named : Named) → 0 < (f named).den) → IsSame (total_of f (game_order ast)) (total_of f ast.order)
in_order ast f some =
    let w = whole_names ast in
    let c = continuous_names ast in
    same_trans (total_of f (w ++ c)) (sum_of (total_of f w) (total_of f c)) (total_of f ast.order)
    (sum_of_den (total_of f w) (total_of f c) (total_of_den f w (λ k d inside. some (get_or w k d))) (total_of_den f c (λ k d inside. some (get_or c k d))))
    (total_of-append f w c) (filtered f (λ named. is_whole ast named.name) ast.order some)
