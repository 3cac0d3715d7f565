-- The terms of a row in the normal form: their order, their numbers and their size.
use Rattle.std.proofs.Common.{◌≡◌, cond, ℕ, zero, suc, ◌+◌, ◌*◌, ◌<◌, ◌≤◌, ◌^◌, Bool, true, false, List, [], ◌∷◌, length, refl, sym, ap, ap₂, ◌∙◌, subst, arith, ℤ, pos, negsuc, neg_ℤ, unsigned_abs, Ok}
use Rattle.std.specs.Prelude.{All, map}
use Rattle.std.specs.Ordering.{int_eq}
use Rattle.std.proofs.lemmas.Bool.{false≢true}
use Rattle.std.proofs.lemmas.Bool.Decides.{Decides-int_eq}
use Rattle.std.proofs.lemmas.List.{length-map}
use Rattle.std.proofs.lemmas.List.Elements.{All-cons, All-map, All-nil}
use Rattle.std.proofs.lemmas.List.Sums.{sum_by-cons}
use Rattle.qm_math.specs.Fraction.{Fraction}
use Rattle.qm_frac.proofs.CheckedLaws.{and_then-ok}
use Rattle.qm_frac.proofs.SignLaws.{unsigned_abs-neg}
use Rattle.qm_model.specs.declared.row.Row.{Row}
use Rattle.qm_model.specs.declared.row.Term.{Term}
use Rattle.qm_model.specs.declared.variable.Var.{Var}
use Rattle.qm_model.specs.Linear.{HasVarsBelow, IsOrderedFrom}
use Rattle.qm_model.specs.Sizes.{reach_in_vars, row_size, terms_size}
use Rattle.qm_model.specs.Sound.{IsRowOver}
use Rattle.qm_parse.specs.declared.ast.AstTerm.{AstTerm}
use Rattle.qm_parse.specs.declared.ast.Named.{Named}
use Rattle.qm_parse.specs.declared.ast.Relation.{Relation}
use Rattle.qm_parse.specs.declared.ast.Relation.TheVariants.{Less, Greater, Equal}
use Rattle.qm_normal.specs.Rows.{common_denominator, is_of, negated_row, negated_term, nonzero_from, related, row_times, times, total, totals}
use Rattle.qm_normal.proofs.NormalSteps.{RowParts, narrow_sizes}

-- a coefficient of the variable n, in front of those of the variables behind it
abbrev pub in_front : ℕ → ℤ → List ℤ → Bool → List Term
in_front n k ks true = nonzero_from (suc n) ks
in_front n k ks false = record { var = n; coef = k } ∷ nonzero_from (suc n) ks

pub nonzero_from-cons : (n : ℕ) (k : ℤ) (ks : List ℤ) → nonzero_from n (k ∷ ks) ≡ in_front n k ks (int_eq k (pos 0))
unfolding nonzero_from
nonzero_from-cons n k ks = elim (int_eq k (pos 0)) as (λ b. (let z : List Term = cond b (nonzero_from (suc n) ks) (record { var = n; coef = k } ∷ nonzero_from (suc n) ks) in z) ≡ in_front n k ks b) [
  | true ↦ refl
  | false ↦ refl
]

pub nonzero_from-nil : (n : ℕ) → nonzero_from n [] ≡ []
unfolding nonzero_from
nonzero_from-nil n = refl

-- the terms stand in order, from any number that is no greater
pub nonzero_ordered : (ks : List ℤ) (n least : ℕ) → least ≤ n → IsOrderedFrom least (nonzero_from n ks)
nonzero_ordered [] n least le = rw (nonzero_from-nil n) tt
nonzero_ordered (k ∷ ks) n least le =
    let P = λ (b : Bool). (int_eq k (pos 0) ≡ b) → IsOrderedFrom least (in_front n k ks b) in
    let found : IsOrderedFrom least (in_front n k ks (int_eq k (pos 0))) =
    elim (int_eq k (pos 0)) as P [
      | true ↦ λ e. nonzero_ordered ks (suc n) least (omega arith)
      | false ↦ λ e. (omega arith, λ same. false≢true (sym e ∙ (Decides-int_eq k (pos 0)).1 same), nonzero_ordered ks (suc n) (suc n) (omega arith))
    ] refl in
    subst (IsOrderedFrom least) (sym (nonzero_from-cons n k ks)) found

-- their numbers are those of the coefficients
pub nonzero_below : (ks : List ℤ) (n bound : ℕ) → n + length ks ≤ bound → HasVarsBelow bound (nonzero_from n ks)
nonzero_below [] n bound le = subst (HasVarsBelow bound) (sym (nonzero_from-nil n)) (All-nil (λ (t : Term). t.var < bound))
nonzero_below (k ∷ ks) n bound le =
    let rest = nonzero_below ks (suc n) bound (omega arith) in
    let found : HasVarsBelow bound (in_front n k ks (int_eq k (pos 0))) =
    elim (int_eq k (pos 0)) as (λ b. HasVarsBelow bound (in_front n k ks b)) [
      | true ↦ rest
      | false ↦ All-cons (λ (t : Term). t.var < bound) (record { var = n; coef = k }) (nonzero_from (suc n) ks) (omega arith) rest
    ] in
    subst (HasVarsBelow bound) (sym (nonzero_from-cons n k ks)) found

-- there is a sum for each variable
pub length-totals : (order : List Named) (terms : List AstTerm) (sums : List Fraction) → totals order terms ≡ Ok sums → length sums ≡ length order
unfolding totals
length-totals [] terms sums h = let e : [] ≡ sums = cc in ap length (sym e)
length-totals (named ∷ order) terms sums h =
    let here = and_then-ok (total (is_of named.name) terms) _ sums h in
    let rest = and_then-ok (totals order terms) _ sums here.2 in
    let e : here.0 ∷ rest.0 ≡ sums = cc in
    ap length (sym e) ∙ ap suc (length-totals order terms rest.0 rest.1)

-- a row of sums, times any number
pub IsRowOver-row_times : (xs : List Var) (d : ℕ) (sums : List Fraction) (right : Fraction) → length sums ≡ length xs
    → row_size (reach_in_vars xs) (row_times d sums right) ≤ 2 ^ 126 → IsRowOver xs (row_times d sums right)
IsRowOver-row_times xs d sums right long small = record {
  ordered = nonzero_ordered (map (times d) sums) 0 0 (omega arith);
  vars = nonzero_below (map (times d) sums) 0 (length xs) (omega (arith, length-map sums (times d), long));
  size = small;
}

pub IsRowOver-normal : (xs : List Var) (order : List Named) (terms : List AstTerm) (right : Fraction) (row : Row) → length order ≡ length xs → RowParts xs order terms right row → IsRowOver xs row
IsRowOver-normal xs order terms right row long parts =
    let d = common_denominator (right ∷ parts.sums) in
    let small = narrow_sizes xs d (row_times d parts.sums right) parts.narrow in
    subst (IsRowOver xs) parts.row_is (IsRowOver-row_times xs d parts.sums right (length-totals order terms parts.sums parts.sums_are ∙ long) small.1)

-- ---- the negated row

neg_zero : (k : ℤ) → neg_ℤ k ≡ pos 0 → k ≡ pos 0
neg_zero (pos zero) h = refl
neg_zero (pos (suc n)) h = absurd (cc)
neg_zero (negsuc n) h = absurd (let e : suc n ≡ 0 = ap unsigned_abs h in omega (arith, e))

negated_ordered : (ts : List Term) (least : ℕ) → IsOrderedFrom least ts → IsOrderedFrom least (map negated_term ts)
negated_ordered [] least order = tt
negated_ordered (t ∷ ts) least order = (order.0, λ e. order.1 (neg_zero t.coef e), negated_ordered ts (suc t.var) order.2)

negated_terms_size : (reach_of : ℕ → ℕ) (ts : List Term) → terms_size reach_of (map negated_term ts) ≡ terms_size reach_of ts
negated_terms_size reach_of [] = refl
negated_terms_size reach_of (t ∷ ts) =
    sum_by-cons (λ (u : Term). unsigned_abs u.coef * reach_of u.var) (negated_term t) (map negated_term ts)
    ∙ ap₂ (λ (m n : ℕ). m * reach_of t.var + n) (unsigned_abs-neg t.coef) (negated_terms_size reach_of ts)
    ∙ sym (sum_by-cons (λ (u : Term). unsigned_abs u.coef * reach_of u.var) t ts)

pub IsRowOver-negated : (xs : List Var) (row : Row) → IsRowOver xs row → IsRowOver xs (negated_row row)
IsRowOver-negated xs row over = record {
  ordered = negated_ordered row.terms 0 over.ordered;
  vars = All-map (λ (t : Term). t.var < length xs) negated_term row.terms over.vars;
  size = omega (arith, over.size, unsigned_abs-neg row.right, negated_terms_size (reach_in_vars xs) row.terms);
}

-- what holds of a row and of its negated row holds of those of a relation
pub each_related : (Q : Row → Type 0) (relation : Relation) (row : Row) → Q row → Q (negated_row row) → All Q (related relation row)
unfolding related
each_related Q Less row here turned = All-cons Q row [] here (All-nil Q)
each_related Q Greater row here turned = All-cons Q (negated_row row) [] turned (All-nil Q)
each_related Q Equal row here turned = All-cons Q row (negated_row row ∷ []) here (All-cons Q (negated_row row) [] turned (All-nil Q))
