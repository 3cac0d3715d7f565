-- A row of the normal form at numerators over a denominator, and the written row that it comes from.
use Rattle.std.proofs.Common.{◌≡◌, ◌↔◌, cond, ℕ, suc, ◌*◌, ◌/◌, ◌<◌, eqb, true, false, List, [], ◌∷◌, length, refl, sym, ap, ap₂, ◌∙◌, subst, arith, ℤ, pos, ◌+ℤ◌, ◌*ℤ◌, ◌≤ℤ◌, neg_ℤ, Ok}
use Rattle.std.specs.Prelude.{All, map}
use Rattle.std.specs.Ordering.{int_eq}
use Rattle.std.proofs.Math.IntN.{zero-*ℤ}
use native.Mathlib.Nat.{div-mul_cancel, dvd-mul_left, dvd-mul_right, mul_assoc, mul_comm}
use Prim.Native.Nat.{◌∣◌}
use Rattle.std.proofs.lemmas.Nat.Gcd.{dvd_trans}
use Rattle.std.proofs.lemmas.Bool.Decides.{Decides-int_eq}
use Rattle.std.proofs.lemmas.Int.{ints}
use Rattle.std.proofs.lemmas.List.Elements.{All-cons, All-head, All-nil, All-tail, All-weaker}
use Rattle.qm_math.specs.Fraction.{Fraction, HasPositiveDen, IsAtMost, IsSame, whole}
use Rattle.qm_math.specs.Arithmetic.{product_of, sum_of}
use Rattle.qm_math.specs.Over.{over}
use Rattle.qm_math.specs.Totals.{total_of}
use Rattle.qm_math.proofs.Compare.{at_most_both}
use Rattle.qm_math.proofs.Polynomials.{number, ◌⊕◌, ◌⊗◌, minus}
use Rattle.qm_math.proofs.Ring.{x0, x1, x2, x3, x4, x5, x6, ring, ring_le}
use Rattle.qm_math.proofs.FractionLaws.{product_of-same, product_of-zero, product_of_den, same_refl, same_sym, same_trans, sum_of-same, sum_of_den, whole_den}
use Rattle.qm_math.proofs.FractionLinear.{same_given}
use Rattle.qm_math.proofs.FractionOrder.{at_most-same, at_most_congr, num_nonneg, product_of-at_most}
use Rattle.qm_math.proofs.Over.{over-at_most-whole, whole-at_most-over, value_step}
use Rattle.qm_math.proofs.Products.{neg-*ℤ}
use Rattle.qm_math.proofs.Whole.{cancel_le}
use Rattle.qm_frac.specs.Gcd.{gcd_of}
use Rattle.qm_frac.proofs.Divisors.{gcd_is}
use Rattle.qm_frac.proofs.CheckedLaws.{and_then-ok}
use Rattle.qm_model.specs.declared.row.Row.{Row}
use Rattle.qm_model.specs.declared.row.Term.{Term}
use Rattle.qm_model.specs.Linear.{coefficient, form, sum_over}
use Rattle.qm_model.specs.Points.{HoldsOver}
use Rattle.qm_model.proofs.Forms.{coefficient-later, coefficient-other, coefficient-same}
use Rattle.qm_parse.specs.declared.ast.AstTerm.{AstTerm}
use Rattle.qm_parse.specs.declared.ast.Named.{Named}
use Rattle.qm_parse.specs.declared.ast.Relation.{Relation}
use Rattle.qm_parse.specs.declared.ast.Relation.TheVariants.{Less, Greater, Equal}
use Rattle.qm_normal.specs.Meaning.{Compares, value_over}
use Rattle.qm_normal.specs.Numbers.{IsProperTerm}
use Rattle.qm_normal.specs.Rows.{common_denominator, is_of, negated_row, negated_term, nonzero_from, related, times, total, totals}
use Rattle.qm_normal.proofs.NormalTerms.{in_front, nonzero_from-cons, nonzero_ordered}
use Rattle.qm_normal.proofs.SumMeaning.{HasPositiveValues, by_name, coef_if, total_is}

-- ---- the common denominator

abbrev pub DividesInto : ℕ → Fraction → Type 0
DividesInto d value = value.den ∣ d

regrouped : (a b g : ℕ) → g ∣ a → g ∣ b → (a / g) * b ≡ a * (b / g)
regrouped a b g p q =
    let p_is : (a / g) * g ≡ a = div-mul_cancel g p in
    let q_is : (b / g) * g ≡ b = div-mul_cancel g q in
    ap (λ (m : ℕ). (a / g) * m) (sym q_is ∙ mul_comm (b / g) g) ∙ sym (mul_assoc (a / g) g (b / g)) ∙ ap (λ (m : ℕ). m * (b / g)) p_is

pub common_divides : (values : List Fraction) → All (DividesInto (common_denominator values)) values
unfolding common_denominator
common_divides [] = All-nil (DividesInto 1)
common_divides (value ∷ values) =
    let a = value.den in
    let b = common_denominator values in
    let g = gcd_is a b in
    let d = a * (b / gcd_of a b) in
    let here : a ∣ d = dvd-mul_right a (b / gcd_of a b) in
    let later : b ∣ d = subst (λ (m : ℕ). b ∣ m) (regrouped a b (gcd_of a b) g.0 g.1) (dvd-mul_left b (a / gcd_of a b)) in
    All-cons (DividesInto d) value values here (All-weaker (DividesInto b) (DividesInto d) (λ v h. dvd_trans v.den h later) values (common_divides values))

pub times_same : (d : ℕ) (v : Fraction) → v.den ∣ d → IsSame (product_of (whole (pos d)) v) (whole (times d v))
unfolding product_of
times_same d v h =
    let q = d / v.den in
    let e : pos (q * v.den) ≡ pos d = ap pos (div-mul_cancel v.den h) in
    subst (λ (z : ℤ). (z *ℤ v.num) *ℤ pos 1 ≡ (v.num *ℤ pos q) *ℤ pos (1 * v.den)) e
    (ring (pos q ∷ pos v.den ∷ v.num ∷ []) (x0 ⊗ x1 ⊗ x2 ⊗ number (pos 1)) (x2 ⊗ x0 ⊗ (number (pos 1) ⊗ x1)) refl)

-- ---- sums times values

abbrev pub weighted : (ℕ → Fraction) → List Fraction → List Named → Fraction
weighted value [] order = whole (pos 0)
weighted value (s ∷ sums) [] = whole (pos 0)
weighted value (s ∷ sums) (named ∷ order) = sum_of (product_of s (value named.name)) (weighted value sums order)

pub weighted_den : (value : ℕ → Fraction) → HasPositiveValues value → (sums : List Fraction) (order : List Named) → All HasPositiveDen sums → 0 < (weighted value sums order).den
weighted_den value positive [] order all = whole_den (pos 0)
weighted_den value positive (s ∷ sums) [] all = whole_den (pos 0)
weighted_den value positive (s ∷ sums) (named ∷ order) all =
    sum_of_den (product_of s (value named.name)) (weighted value sums order) (product_of_den s (value named.name) (All-head HasPositiveDen s sums all) (positive named.name))
    (weighted_den value positive sums order (All-tail HasPositiveDen s sums all))

pub weighted_is : (value : ℕ → Fraction) (terms : List AstTerm) → All IsProperTerm terms → (order : List Named) (sums : List Fraction) → totals order terms ≡ Ok sums
    → IsSame (weighted value sums order) (total_of (by_name value terms) order)
unfolding totals
weighted_is value terms proper [] sums h =
    let e : [] ≡ sums = cc in subst (λ (ss : List Fraction). IsSame (weighted value ss []) (whole (pos 0))) e (same_refl (whole (pos 0)))
weighted_is value terms proper (named ∷ order) sums h =
    let here = and_then-ok (total (is_of named.name) terms) _ sums h in
    let rest = and_then-ok (totals order terms) _ sums here.2 in
    let e : here.0 ∷ rest.0 ≡ sums = cc in
    let v = value named.name in
    let t = total_of (coef_if (is_of named.name)) terms in
    subst (λ (ss : List Fraction). IsSame (weighted value ss (named ∷ order)) (sum_of (product_of t v) (total_of (by_name value terms) order))) e
    (sum_of-same (product_of here.0 v) (weighted value rest.0 order) (product_of t v) (total_of (by_name value terms) order)
    (product_of-same here.0 v t v (total_is (is_of named.name) terms here.0 proper here.1) (same_refl v))
    (weighted_is value terms proper order rest.0 rest.1))

-- the same of numerators
abbrev pub weighted_nums : ℕ → (ℕ → ℤ) → List Fraction → List Named → ℤ
weighted_nums d nums [] order = pos 0
weighted_nums d nums (s ∷ sums) [] = pos 0
weighted_nums d nums (s ∷ sums) (named ∷ order) = (times d s *ℤ nums named.name) +ℤ weighted_nums d nums sums order

zero_over : (d den : ℕ) → IsSame (product_of (whole (pos d)) (whole (pos 0))) (over den (pos 0))
zero_over d den =
    same_trans (product_of (whole (pos d)) (whole (pos 0))) (whole (pos 0)) (over den (pos 0)) (whole_den (pos 0)) (product_of-zero (whole (pos d)))
    (zero-*ℤ (pos den) ∙ sym (zero-*ℤ (pos 1)))

pub scaled_weighted : (d den : ℕ) (nums : ℕ → ℤ) → 0 < den → (sums : List Fraction) (order : List Named) → All (DividesInto d) sums → All HasPositiveDen sums
    → IsSame (product_of (whole (pos d)) (weighted (value_over den nums) sums order)) (over den (weighted_nums d nums sums order))
scaled_weighted d den nums some [] order divides all = zero_over d den
scaled_weighted d den nums some (s ∷ sums) [] divides all = zero_over d den
scaled_weighted d den nums some (s ∷ sums) (named ∷ order) divides all =
    let m = over den (nums named.name) in
    let w = weighted (value_over den nums) sums order in
    let k = times d s in
    let z = weighted_nums d nums sums order in
    let rest = All-tail HasPositiveDen s sums all in
    let s_den = All-head HasPositiveDen s sums all in
    let w_den = weighted_den (value_over den nums) (λ name. some) sums order rest in
    same_given (whole (pos d) ∷ s ∷ m ∷ w ∷ whole k ∷ over den z ∷ over den ((k *ℤ nums named.name) +ℤ z) ∷ []) (x0 ⊗ (x1 ⊗ x2 ⊕ x3)) x6
    ((number (pos 1), x0 ⊗ x3, x5) ∷ (x2, x0 ⊗ x1, x4) ∷ (number (pos 1), x4 ⊗ x2 ⊕ x5, x6) ∷ [])
    (whole_den (pos d), (s_den, (some, (w_den, (whole_den k, (some, (some, tt)))))))
    (scaled_weighted d den nums some sums order (All-tail (DividesInto d) s sums divides) rest, (times_same d s (All-head (DividesInto d) s sums divides), (value_step den k (nums named.name) z (over den z) (same_refl (over den z)), tt))) refl

-- ---- the form

sum_over_other : (t : Term) (ts : List Term) (first : ℕ) (values : List ℤ) → t.var < first → sum_over ◌*ℤ◌ (t ∷ ts) first values ≡ sum_over ◌*ℤ◌ ts first values
sum_over_other t ts first [] h = refl
sum_over_other t ts first (v ∷ values) h =
    let e = coefficient-other t ts first (omega arith) in
    let rest = sum_over_other t ts (suc first) values (omega arith) in
    rw (e, rest)

pub form_from : (d : ℕ) (nums : ℕ → ℤ) (first : ℕ) (sums : List Fraction) (order : List Named) → length sums ≡ length order
    → sum_over ◌*ℤ◌ (nonzero_from first (map (times d) sums)) first (map (λ (named : Named). nums named.name) order) ≡ weighted_nums d nums sums order
form_from d nums first [] [] long = refl
form_from d nums first [] (named ∷ order) long = absurd (omega (arith, long))
form_from d nums first (s ∷ sums) [] long = absurd (omega (arith, long))
form_from d nums first (s ∷ sums) (named ∷ order) long =
    let k = times d s in
    let ks = map (times d) sums in
    let ts = nonzero_from (suc first) ks in
    let v = nums named.name in
    let vs = map (λ (named : Named). nums named.name) order in
    let z = weighted_nums d nums sums order in
    let rest : sum_over ◌*ℤ◌ ts (suc first) vs ≡ z = form_from d nums (suc first) sums order (omega (arith, long)) in
    let later : coefficient ts first ≡ pos 0 = coefficient-later ts (suc first) first (nonzero_ordered ks (suc first) (suc first) (omega arith)) (omega arith) in
    let t : Term = record { var = first; coef = k } in
    let found : sum_over ◌*ℤ◌ (in_front first k ks (int_eq k (pos 0))) first (v ∷ vs) ≡ (k *ℤ v) +ℤ z =
    elim (int_eq k (pos 0)) as (λ b. (int_eq k (pos 0) ≡ b) → sum_over ◌*ℤ◌ (in_front first k ks b) first (v ∷ vs) ≡ (k *ℤ v) +ℤ z) [
      | true ↦ λ e. ap₂ (λ (a b : ℤ). (a *ℤ v) +ℤ b) (later ∙ sym ((Decides-int_eq k (pos 0)).0 e)) rest
      | false ↦ λ e.
          let here : coefficient (t ∷ ts) first ≡ k = coefficient-same t ts first refl ∙ ap (λ (a : ℤ). k +ℤ a) later ∙ (let f : k +ℤ pos 0 ≡ k = omega (arith, ints) in f) in
          ap₂ (λ (a b : ℤ). (a *ℤ v) +ℤ b) here (sum_over_other t ts (suc first) vs (omega arith) ∙ rest)
    ] refl in
    ap (λ (us : List Term). sum_over ◌*ℤ◌ us first (v ∷ vs)) (nonzero_from-cons first k ks) ∙ found

negated_coefficient : (ts : List Term) (var : ℕ) → coefficient (map negated_term ts) var ≡ neg_ℤ (coefficient ts var)
negated_coefficient [] var = refl
negated_coefficient (t ∷ ts) var =
    let rest = negated_coefficient ts var in
    elim (eqb t.var var) as (λ b. (let z : ℤ = cond b (neg_ℤ t.coef +ℤ coefficient (map negated_term ts) var) (coefficient (map negated_term ts) var) in z) ≡ neg_ℤ (let y : ℤ = cond b (t.coef +ℤ coefficient ts var) (coefficient ts var) in y)) [
      | true ↦ ap (λ (a : ℤ). neg_ℤ t.coef +ℤ a) rest ∙ ring (t.coef ∷ coefficient ts var ∷ []) (minus x0 ⊕ minus x1) (minus (x0 ⊕ x1)) refl
      | false ↦ rest
    ]

negated_sum : (ts : List Term) (first : ℕ) (values : List ℤ) → sum_over ◌*ℤ◌ (map negated_term ts) first values ≡ neg_ℤ (sum_over ◌*ℤ◌ ts first values)
negated_sum ts first [] = refl
negated_sum ts first (v ∷ values) =
    ap₂ (λ (a b : ℤ). (a *ℤ v) +ℤ b) (negated_coefficient ts first) (negated_sum ts (suc first) values)
    ∙ ring (coefficient ts first ∷ v ∷ sum_over ◌*ℤ◌ ts (suc first) values ∷ []) (minus x0 ⊗ x1 ⊕ minus x2) (minus (x0 ⊗ x1 ⊕ x2)) refl

-- ---- orders

less_again : (d : ℕ) (a b : Fraction) → 0 < d → IsAtMost (product_of (whole (pos d)) a) (product_of (whole (pos d)) b) → IsAtMost a b
unfolding product_of
less_again d a b some h =
    cancel_le (a.num *ℤ pos b.den) (b.num *ℤ pos a.den) d some
    (ring_le (pos d ∷ a.num ∷ pos a.den ∷ b.num ∷ pos b.den ∷ []) (x1 ⊗ x4 ⊗ x0) (x3 ⊗ x2 ⊗ x0) (x0 ⊗ x1 ⊗ (number (pos 1) ⊗ x4)) (x0 ⊗ x3 ⊗ (number (pos 1) ⊗ x2)) h refl)

module _ (d den : ℕ) (v right : Fraction) (z k : ℤ) (some_d : 0 < d) (some : 0 < den) (v_den : 0 < v.den) (right_den : 0 < right.den)
    (left_is : IsSame (product_of (whole (pos d)) v) (over den z)) (right_is : IsSame (product_of (whole (pos d)) right) (whole k)) where
  abbrev scale : Fraction
  scale = whole (pos d)

  scale_some : IsAtMost (whole (pos 0)) scale
  scale_some = num_nonneg scale (omega (arith, ints))

  pub at_most_is : (z ≤ℤ (k *ℤ pos den)) ↔ IsAtMost v right
  at_most_is = (
    λ h. less_again d v right some_d
        (at_most_congr (over den z) (whole k) (product_of scale v) (product_of scale right) some (whole_den k) (sym left_is) (sym right_is) ((over-at_most-whole den z k).1 h)),
    λ h. (over-at_most-whole den z k).0
        (at_most_congr (product_of scale v) (product_of scale right) (over den z) (whole k) (product_of_den scale v (whole_den (pos d)) v_den) (product_of_den scale right (whole_den (pos d)) right_den)
        left_is right_is (product_of-at_most scale v right scale_some h)),
  )

  pub at_least_is : ((k *ℤ pos den) ≤ℤ z) ↔ IsAtMost right v
  at_least_is = (
    λ h. less_again d right v some_d
        (at_most_congr (whole k) (over den z) (product_of scale right) (product_of scale v) (whole_den k) some (sym right_is) (sym left_is) ((whole-at_most-over den k z).1 h)),
    λ h. (whole-at_most-over den k z).0
        (at_most_congr (product_of scale right) (product_of scale v) (whole k) (over den z) (product_of_den scale right (whole_den (pos d)) right_den) (product_of_den scale v (whole_den (pos d)) v_den)
        right_is left_is (product_of-at_most scale right v scale_some h)),
  )

-- ---- relations

turned_le : (f k : ℤ) (den : ℕ) → (neg_ℤ f ≤ℤ (neg_ℤ k *ℤ pos den)) ↔ ((k *ℤ pos den) ≤ℤ f)
turned_le f k den =
    let e = neg-*ℤ k (pos den) in (
      λ h. let g : neg_ℤ f ≤ℤ neg_ℤ (k *ℤ pos den) = subst (λ (m : ℤ). neg_ℤ f ≤ℤ m) e h in omega (arith, ints, g),
      λ h. subst (λ (m : ℤ). neg_ℤ f ≤ℤ m) (sym e) (let g : neg_ℤ f ≤ℤ neg_ℤ (k *ℤ pos den) = omega (arith, ints, h) in g),
    )

pub negated_holds : (den : ℕ) (values : List ℤ) (row : Row) → HoldsOver den values (negated_row row) ↔ ((row.right *ℤ pos den) ≤ℤ form row.terms values)
negated_holds den values row =
    let e = negated_sum row.terms 0 values in
    let turned = turned_le (form row.terms values) row.right den in (
      λ h. turned.0 (subst (λ (m : ℤ). m ≤ℤ (neg_ℤ row.right *ℤ pos den)) e h),
      λ h. subst (λ (m : ℤ). m ≤ℤ (neg_ℤ row.right *ℤ pos den)) (sym e) (turned.1 h),
    )

pub related_holds : (den : ℕ) (values : List ℤ) (relation : Relation) (row : Row) (v right : Fraction)
    → HoldsOver den values row ↔ IsAtMost v right → HoldsOver den values (negated_row row) ↔ IsAtMost right v
    → All (HoldsOver den values) (related relation row) ↔ Compares relation v right
unfolding related
related_holds den values Less row v right down up =
    let Q = HoldsOver den values in (λ h. down.0 (All-head Q row [] h), λ h. All-cons Q row [] (down.1 h) (All-nil Q))
related_holds den values Greater row v right down up =
    let Q = HoldsOver den values in (λ h. up.0 (All-head Q (negated_row row) [] h), λ h. All-cons Q (negated_row row) [] (up.1 h) (All-nil Q))
related_holds den values Equal row v right down up =
    let Q = HoldsOver den values in
    let last : List Row = negated_row row ∷ [] in (
      λ h. at_most_both v right (down.0 (All-head Q row last h)) (up.0 (All-head Q (negated_row row) [] (All-tail Q row last h))),
      λ h. All-cons Q row last (down.1 (at_most-same v right h)) (All-cons Q (negated_row row) [] (up.1 (at_most-same right v (same_sym v right h))) (All-nil Q)),
    )
