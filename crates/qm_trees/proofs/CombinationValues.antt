-- A combination's value over a box is the exact one, where no operation leaves.
use Rattle.std.proofs.Common.{◌≡◌, refl, sym, ℕ, suc, ◌<◌, List, [], ◌∷◌, All, arith, ℤ, pos, ◌≤ℤ◌, subst, Bool, true, false, Ok}
use Rattle.std.specs.Prelude.{if◌then◌else◌}
use Rattle.std.specs.Ordering.{int_eq}
use Rattle.std.proofs.lemmas.List.Elements.{All-head, All-tail}
use Rattle.std.proofs.lemmas.Int.{ints}
use Rattle.qm_math.specs.Fraction.{Fraction, whole, IsSame, IsAtMost, IsBelow, is_below}
use Rattle.qm_math.specs.Arithmetic.{sum_of, difference_of, product_of, quotient_of}
use Rattle.qm_math.proofs.Polynomials.{number, ◌⊕◌, ◌⊗◌, minus}
use Rattle.qm_math.proofs.Ring.{x0, x1, x2}
use Rattle.qm_math.proofs.FractionRing.{num_of, den_of, same_from, same_by_ring}
use Rattle.qm_math.proofs.FractionLaws.{same_refl, same_sym, same_trans, sum_of-same, difference_of-same, quotient_of-same, whole_den, sum_of_den, difference_of_den, product_of_den, sum_of_comm, zero-sum_of, sum_of-zero, whole_quotient_den}
use Rattle.qm_math.proofs.FractionOrder.{below_congr, at_most_congr}
use Rattle.qm_math.proofs.Ends.{least_multiple-same}
use Rattle.qm_math.specs.Ends.{least_multiple}
use Rattle.qm_math.proofs.Magnitudes.{unsigned_abs-one_le}
use Rattle.qm_math.proofs.WholeTests.{eq_of_test}
use Rattle.qm_frac.specs.Checked.{Checked, and_then, added, subtracted, multiplied, divided}
use Rattle.qm_frac.proofs.CheckedLaws.{and_then-ok, added-value, subtracted-value, multiplied-value, divided-value, IsFrac-added, IsFrac-subtracted, IsFrac-multiplied, IsFrac-divided}
use Rattle.qm_model.specs.declared.range.Range.{Range}
use Rattle.qm_model.specs.declared.game.Problem.{Problem}
use Rattle.qm_model.specs.Linear.{coefficient}
use Rattle.qm_trees.specs.declared.combination.ComboValue.{ComboValue}
use Rattle.qm_trees.specs.declared.combination.ComboValue.TheVariants.{Nothing, Void, Bound}
use Rattle.qm_trees.specs.Entries.{Weighted}
use Rattle.qm_trees.specs.Evaluation.{zero, least_end_by, if_objective, right_side, combined_coefficient, least_form, least_combined, bound_of, add_right_sides, add_coefficients, less_objective, add_least, add_variables, value_of}
use Rattle.qm_trees.proofs.CombinationSound.{combined_row_at, combined_right, combined_row_at_den, combined_right_den, if_objective_den, combined_coefficient_den, least_form_den, least_combined_den, right_side_den, least_end_multiple}
use Rattle.qm_trees.proofs.Lines.{ok_is}

-- the value is the exact one, over a positive denominator
pub record IsExact (r exact : Fraction) : Type 0 where
  pub same : IsSame r exact
  pub positive : 0 < r.den

-- ---- one operation

added_exact : (a b r : Fraction) → 0 < a.den → 0 < b.den → added a b ≡ Ok r → IsExact r (sum_of a b)
added_exact a b r ha hb h = record { same = added-value a b r h; positive = (IsFrac-added a b r ha hb h).positive }

subtracted_exact : (a b r : Fraction) → 0 < a.den → 0 < b.den → subtracted a b ≡ Ok r → IsExact r (difference_of a b)
subtracted_exact a b r ha hb h = record { same = subtracted-value a b r h; positive = (IsFrac-subtracted a b r ha hb h).positive }

multiplied_exact : (a b r : Fraction) → 0 < a.den → 0 < b.den → multiplied a b ≡ Ok r → IsExact r (product_of a b)
multiplied_exact a b r ha hb h = record { same = multiplied-value a b r h; positive = (IsFrac-multiplied a b r ha hb h).positive }

divided_exact : (a : Fraction) (n : ℤ) (r : Fraction) → 0 < a.den → pos 1 ≤ℤ n → divided a (whole n) ≡ Ok r → IsExact r (quotient_of a (whole n))
divided_exact a n r ha scale h = record { same = divided-value a (whole n) r h; positive = (IsFrac-divided a (whole n) r ha (unsigned_abs-one_le n scale) h).positive }

-- a product is added to the sum so far
product_added : (k e s p t : Fraction) → 0 < k.den → 0 < e.den → 0 < s.den → multiplied k e ≡ Ok p → added s p ≡ Ok t → IsExact t (sum_of (product_of k e) s)
product_added k e s p t hk he hs times plus =
    let product = multiplied_exact k e p hk he times in
    let total = added_exact s p t hs product.positive plus in
    record {
      same = same_trans t (sum_of s p) (sum_of (product_of k e) s) (sum_of_den s p hs product.positive) total.same
          (same_trans (sum_of s p) (sum_of p s) (sum_of (product_of k e) s) (sum_of_den p s product.positive hs) (sum_of_comm s p)
          (sum_of-same p s (product_of k e) s product.same (same_refl s)));
      positive = total.positive;
    }

-- a sum whose first part is in the sum so far already
moved : (t q rest s s1 : Fraction) → 0 < q.den → 0 < rest.den → 0 < s.den → 0 < s1.den → IsExact t (sum_of rest s1) → IsSame s1 (sum_of q s) → IsExact t (sum_of (sum_of q rest) s)
moved t q rest s s1 hq hrest hs hs1 total first = record {
  same = same_trans t (sum_of rest s1) (sum_of (sum_of q rest) s) (sum_of_den rest s1 hrest hs1) total.same
      (same_trans (sum_of rest s1) (sum_of rest (sum_of q s)) (sum_of (sum_of q rest) s) (sum_of_den rest (sum_of q s) hrest (sum_of_den q s hq hs))
      (sum_of-same rest s1 rest (sum_of q s) (same_refl rest) first)
      (same_by_ring (q ∷ rest ∷ s ∷ []) (x1 ⊕ (x0 ⊕ x2)) (x0 ⊕ x1 ⊕ x2) refl));
  positive = total.positive;
}

pub from_zero : (t : Fraction) (total : Fraction) → 0 < total.den → IsExact t (sum_of total zero) → IsSame t total
from_zero t total h exact = same_trans t (sum_of total zero) total (sum_of_den total zero h (whole_den (pos 0))) exact.same (sum_of-zero total)

pub below_true : (a b : Fraction) → is_below a b ≡ true → IsBelow a b
below_true a b e = grind (arith, ints)

pub below_false : (a b : Fraction) → is_below a b ≡ false → IsAtMost b a
below_false a b e = grind (arith, ints)

zero_product : (k : Fraction) (s : Fraction) → IsSame s (sum_of (product_of k (whole (pos 0))) s)
zero_product k s = same_by_ring (k ∷ s ∷ []) x1 (x0 ⊗ number (pos 0) ⊕ x1) refl

nothing_added : (by s : Fraction) (k : ℤ) → k ≡ pos 0 → IsSame s (sum_of (product_of by (whole k)) s)
nothing_added by s k e = subst (λ (n : ℤ). IsSame s (sum_of (product_of by (whole n)) s)) (sym e) (zero_product by s)

pub nothing_less : (c : Fraction) → IsSame c (difference_of c (whole (pos 0)))
nothing_less c = same_by_ring (c ∷ []) x0 (x0 ⊕ minus (number (pos 0))) refl

kept : (c t : Fraction) (k : ℤ) → 0 < c.den → c ≡ t → k ≡ pos 0 → IsExact t (difference_of c (whole k))
kept c t k hc e z = subst (λ (x : Fraction). IsExact x (difference_of c (whole k))) e
    (subst (λ (n : ℤ). IsExact c (difference_of c (whole n))) (sym z) (record { same = nothing_less c; positive = hc }))

-- ---- the right side

pub add_right_sides_exact : (ws : List Weighted) (s t : Fraction) → All (λ (w : Weighted). 0 < w.by.den) ws → 0 < s.den → add_right_sides ws s ≡ Ok t → IsExact t (sum_of (combined_right ws) s)
add_right_sides_exact [] s t dens hs h = record {
  same = subst (λ (x : Fraction). IsSame x (sum_of zero s)) (ok_is s t h) (same_sym (sum_of zero s) s (zero-sum_of s));
  positive = subst (λ (x : Fraction). 0 < x.den) (ok_is s t h) hs;
}
add_right_sides_exact (w ∷ ws) s t dens hs h =
    let times = and_then-ok (multiplied w.by (whole w.row.right)) (λ p. and_then (added s p) (λ s1. add_right_sides ws s1)) t h in
    let plus = and_then-ok (added s times.0) (λ s1. add_right_sides ws s1) t times.2 in
    let by_den = All-head (λ (w : Weighted). 0 < w.by.den) w ws dens in
    let after = All-tail (λ (w : Weighted). 0 < w.by.den) w ws dens in
    let step = product_added w.by (whole w.row.right) s times.0 plus.0 by_den (whole_den w.row.right) hs times.1 plus.1 in
    moved t (product_of w.by (whole w.row.right)) (combined_right ws) s plus.0
    (product_of_den w.by (whole w.row.right) by_den (whole_den w.row.right)) (combined_right_den ws after) hs step.positive
    (add_right_sides_exact ws plus.0 t after step.positive plus.2) step.same

-- ---- a combined coefficient

pub add_coefficients_exact : (var : ℕ) (ws : List Weighted) (s t : Fraction) → All (λ (w : Weighted). 0 < w.by.den) ws → 0 < s.den → add_coefficients var ws s ≡ Ok t → IsExact t (sum_of (combined_row_at ws var) s)
add_coefficients_exact var [] s t dens hs h = record {
  same = subst (λ (x : Fraction). IsSame x (sum_of zero s)) (ok_is s t h) (same_sym (sum_of zero s) s (zero-sum_of s));
  positive = subst (λ (x : Fraction). 0 < x.den) (ok_is s t h) hs;
}
add_coefficients_exact var (w ∷ ws) s t dens hs h =
    by_test (λ s1 hs1 h1. add_coefficients_exact var ws s1 t (All-tail (λ (w : Weighted). 0 < w.by.den) w ws dens) hs1 h1) (int_eq k (pos 0)) refl h
  where
    k : ℤ
    k = coefficient w.row.terms var

    by_den : 0 < w.by.den
    by_den = All-head (λ (w : Weighted). 0 < w.by.den) w ws dens

    after : All (λ (w : Weighted). 0 < w.by.den) ws
    after = All-tail (λ (w : Weighted). 0 < w.by.den) w ws dens

    next : Fraction → Checked Fraction
    next p = and_then (added s p) (λ d. add_coefficients var ws d)

    by_test : ((s1 : Fraction) → 0 < s1.den → add_coefficients var ws s1 ≡ Ok t → IsExact t (sum_of (combined_row_at ws var) s1)) → (b : Bool) → int_eq k (pos 0) ≡ b → (if b then add_coefficients var ws s else and_then (multiplied w.by (whole k)) next) ≡ Ok t
        → IsExact t (sum_of (sum_of (product_of w.by (whole k)) (combined_row_at ws var)) s)
    by_test rest true e h =
        moved t (product_of w.by (whole k)) (combined_row_at ws var) s s
        (product_of_den w.by (whole k) by_den (whole_den k)) (combined_row_at_den ws var after) hs hs
        (rest s hs h) (nothing_added w.by s k (eq_of_test k (pos 0) e))
    by_test rest false e h =
        let times = and_then-ok (multiplied w.by (whole k)) next t h in
        let plus = and_then-ok (added s times.0) (λ d. add_coefficients var ws d) t times.2 in
        let step = product_added w.by (whole k) s times.0 plus.0 by_den (whole_den k) hs times.1 plus.1 in
        moved t (product_of w.by (whole k)) (combined_row_at ws var) s plus.0
        (product_of_den w.by (whole k) by_den (whole_den k)) (combined_row_at_den ws var after) hs step.positive
        (rest plus.0 step.positive plus.2) step.same

less_objective_exact : (P : Problem) (objective : Bool) (var : ℕ) (c t : Fraction) → 0 < c.den → less_objective P objective var c ≡ Ok t → IsExact t (difference_of c (if_objective objective (coefficient P.terms var)))
less_objective_exact P false var c t hc h = kept c t (pos 0) hc (ok_is c t h) refl
less_objective_exact P true var c t hc h = by_test (int_eq k (pos 0)) refl h
  where
    k : ℤ
    k = coefficient P.terms var

    by_test : (b : Bool) → int_eq k (pos 0) ≡ b → (if b then Ok c else subtracted c (whole k)) ≡ Ok t → IsExact t (difference_of c (whole k))
    by_test true e h = kept c t k hc (ok_is c t h) (eq_of_test k (pos 0) e)
    by_test false e h = subtracted_exact c (whole k) t hc (whole_den k) h

-- ---- the least value of the form

zero_numerator : (c x s : Fraction) → IsSame (whole (pos 0)) c → IsSame s (sum_of (product_of c x) s)
zero_numerator c x s e =
    same_from (c ∷ x ∷ s ∷ []) x2 (x0 ⊗ x1 ⊕ x2) ((num_of x1 ⊗ den_of (x2 ⊗ x2), number (pos 0), x0) ∷ []) (e, tt) refl

least_product_same : (c k : Fraction) (r : Range) → 0 < c.den → 0 < k.den → IsSame c k
    → IsSame (product_of c (whole (least_end_by c.num r))) (product_of k (whole (least_end_by k.num r)))
least_product_same c k r hc hk e =
    subst (λ (x : Fraction). IsSame x (product_of k (whole (least_end_by k.num r)))) (least_end_multiple c r)
    (subst (λ (x : Fraction). IsSame (least_multiple c (whole r.low) (whole r.high)) x) (least_end_multiple k r)
    (least_multiple-same c k (whole r.low) (whole r.high) hc hk e))

is_zero_num : (c : Fraction) → int_eq c.num (pos 0) ≡ true → IsSame (whole (pos 0)) c
is_zero_num c e =
    let z : c.num ≡ pos 0 = eq_of_test c.num (pos 0) e in
    omega (arith, ints, z)

-- an exact sum with a term the same as the exact one
same_term : (t p q s : Fraction) → 0 < p.den → 0 < s.den → IsSame p q → IsExact t (sum_of p s) → IsExact t (sum_of q s)
same_term t p q s hp hs e exact = record {
  same = same_trans t (sum_of p s) (sum_of q s) (sum_of_den p s hp hs) exact.same (sum_of-same p s q s e (same_refl s));
  positive = exact.positive;
}

add_least_exact : (c k : Fraction) (r : Range) (s t : Fraction) → 0 < c.den → 0 < k.den → 0 < s.den → IsSame c k → add_least c r s ≡ Ok t
    → IsExact t (sum_of (product_of k (whole (least_end_by k.num r))) s)
add_least_exact c k r s t hc hk hs e h =
    same_term t (product_of c end) (product_of k (whole (least_end_by k.num r))) s (product_of_den c end hc (whole_den (least_end_by c.num r))) hs
    (least_product_same c k r hc hk e) (by_test (int_eq c.num (pos 0)) refl h)
  where
    end : Fraction
    end = whole (least_end_by c.num r)

    by_test : (b : Bool) → int_eq c.num (pos 0) ≡ b → (if b then Ok s else and_then (multiplied c end) (λ p. added s p)) ≡ Ok t → IsExact t (sum_of (product_of c end) s)
    by_test true z h =
        subst (λ (x : Fraction). IsExact x (sum_of (product_of c end) s)) (ok_is s t h)
        (record { same = zero_numerator c end s (is_zero_num c z); positive = hs })
    by_test false z h =
        let times = and_then-ok (multiplied c end) (λ p. added s p) t h in
        product_added c end s times.0 t hc (whole_den (least_end_by c.num r)) hs times.1 times.2

add_variables_exact : (P : Problem) (objective : Bool) (ws : List Weighted) → All (λ (w : Weighted). 0 < w.by.den) ws → (var : ℕ) (bx : List Range) (s t : Fraction) → 0 < s.den
    → add_variables P objective ws var bx s ≡ Ok t → IsExact t (sum_of (least_form (combined_coefficient P objective ws) var bx) s)
add_variables_exact P objective ws dens var [] s t hs h = record {
  same = subst (λ (x : Fraction). IsSame x (sum_of zero s)) (ok_is s t h) (same_sym (sum_of zero s) s (zero-sum_of s));
  positive = subst (λ (x : Fraction). 0 < x.den) (ok_is s t h) hs;
}
add_variables_exact P objective ws dens var (r ∷ bx) s t hs h =
    let k = combined_coefficient P objective ws var in
    let k_den = combined_coefficient_den P objective ws dens var in
    let less = if_objective objective (coefficient P.terms var) in
    let rest : Fraction → Checked Fraction = λ s1. add_variables P objective ws (suc var) bx s1 in
    let p = and_then-ok (add_coefficients var ws zero) (λ a. and_then (less_objective P objective var a) (λ c. and_then (add_least c r s) rest)) t h in
    let q = and_then-ok (less_objective P objective var p.0) (λ c. and_then (add_least c r s) rest) t p.2 in
    let u = and_then-ok (add_least q.0 r s) rest t q.2 in
    let a_exact = add_coefficients_exact var ws zero p.0 dens (whole_den (pos 0)) p.1 in
    let a_same = from_zero p.0 (combined_row_at ws var) (combined_row_at_den ws var dens) a_exact in
    let c_exact = less_objective_exact P objective var p.0 q.0 a_exact.positive q.1 in
    let c_same = same_trans q.0 (difference_of p.0 less) k
    (difference_of_den p.0 less a_exact.positive (if_objective_den objective (coefficient P.terms var))) c_exact.same
    (difference_of-same p.0 less (combined_row_at ws var) less a_same (same_refl less)) in
    let step = add_least_exact q.0 k r s u.0 c_exact.positive k_den hs c_same u.1 in
    moved t (product_of k (whole (least_end_by k.num r))) (least_form (combined_coefficient P objective ws) (suc var) bx) s u.0
    (product_of_den k (whole (least_end_by k.num r)) k_den (whole_den (least_end_by k.num r)))
    (least_form_den (combined_coefficient P objective ws) (suc var) bx (combined_coefficient_den P objective ws dens)) hs step.positive
    (add_variables_exact P objective ws dens (suc var) bx u.0 t step.positive u.2) step.same

-- ---- the value of a combination

least_same : (P : Problem) (objective : Bool) (ws : List Weighted) → All (λ (w : Weighted). 0 < w.by.den) ws → (bx : List Range) (s : Fraction)
    → add_variables P objective ws 0 bx zero ≡ Ok s → IsExact s (least_combined P objective ws bx)
least_same P objective ws dens bx s h =
    let exact = add_variables_exact P objective ws dens 0 bx zero s (whole_den (pos 0)) h in
    record { same = from_zero s (least_combined P objective ws bx) (least_combined_den P objective ws bx dens) exact; positive = exact.positive }

-- what a value without the objective says
abbrev pub Says : Problem → List Weighted → List Range → ComboValue → Type 0
Says P ws bx Void = IsBelow (right_side P false ws) (least_combined P false ws bx)
Says P ws bx Nothing = IsAtMost (least_combined P false ws bx) (right_side P false ws)
Says P ws bx (Bound w) = ⊥

-- what a value with the objective says
abbrev pub Bounds : Problem → List Weighted → List Range → ComboValue → Type 0
Bounds P ws bx Void = ⊥
Bounds P ws bx Nothing = ⊥
Bounds P ws bx (Bound w) = IsExact w (bound_of P ws bx)

pub says : (P : Problem) (ws : List Weighted) (bx : List Range) (v : ComboValue) → All (λ (w : Weighted). 0 < w.by.den) ws → value_of P false ws bx ≡ Ok v → Says P ws bx v
unfolding value_of
says P ws bx v dens h =
    let p = and_then-ok (add_right_sides ws zero) (λ r. and_then (add_variables P false ws 0 bx zero) (λ s. let z : Checked ComboValue = Ok (if is_below r s then Void else Nothing) in z)) v h in
    let q = and_then-ok (add_variables P false ws 0 bx zero) (λ s. let z : Checked ComboValue = Ok (if is_below p.0 s then Void else Nothing) in z) v p.2 in
    let right = add_right_sides_exact ws zero p.0 dens (whole_den (pos 0)) p.1 in
    let least = least_same P false ws dens bx q.0 q.1 in
    subst (Says P ws bx) (ok_is (if is_below p.0 q.0 then Void else Nothing) v q.2)
    (by_test (is_below p.0 q.0) p.0 q.0 refl right least)
  where
    by_test : (b : Bool) (r s : Fraction) → is_below r s ≡ b → IsExact r (right_side P false ws) → IsExact s (least_combined P false ws bx) → Says P ws bx (if b then Void else Nothing)
    by_test true r s e right least =
        below_congr r s (right_side P false ws) (least_combined P false ws bx) right.positive least.positive
        (right_side_den P false ws dens) (least_combined_den P false ws bx dens) right.same least.same (below_true r s e)
    by_test false r s e right least =
        at_most_congr s r (least_combined P false ws bx) (right_side P false ws) least.positive right.positive least.same right.same (below_false r s e)

pub bounds : (P : Problem) (ws : List Weighted) (bx : List Range) (v : ComboValue) → All (λ (w : Weighted). 0 < w.by.den) ws → pos 1 ≤ℤ P.scale → value_of P true ws bx ≡ Ok v → Bounds P ws bx v
unfolding value_of
bounds P ws bx v dens scale h =
    let last : Fraction → Checked ComboValue = λ k. and_then (divided k (whole P.scale)) (λ w. Ok (Bound w)) in
    let third : Fraction → Fraction → Checked ComboValue = λ q s. and_then (subtracted q s) last in
    let second : Fraction → Checked ComboValue = λ q. and_then (add_variables P true ws 0 bx zero) (third q) in
    let a = and_then-ok (add_right_sides ws zero) (λ r. and_then (added r (whole P.constant)) second) v h in
    let b = and_then-ok (added a.0 (whole P.constant)) second v a.2 in
    let c = and_then-ok (add_variables P true ws 0 bx zero) (third b.0) v b.2 in
    let d = and_then-ok (subtracted b.0 c.0) last v c.2 in
    let f = and_then-ok (divided d.0 (whole P.scale)) (λ w. let z : Checked ComboValue = Ok (Bound w) in z) v d.2 in
    let rows = add_right_sides_exact ws zero a.0 dens (whole_den (pos 0)) a.1 in
    let rows_same = from_zero a.0 (combined_right ws) (combined_right_den ws dens) rows in
    let with_constant = added_exact a.0 (whole P.constant) b.0 rows.positive (whole_den P.constant) b.1 in
    let right : IsSame b.0 (right_side P true ws) = same_trans b.0 (sum_of a.0 (whole P.constant)) (right_side P true ws)
    (sum_of_den a.0 (whole P.constant) rows.positive (whole_den P.constant)) with_constant.same
    (sum_of-same a.0 (whole P.constant) (combined_right ws) (whole P.constant) rows_same (same_refl (whole P.constant))) in
    let least = least_same P true ws dens bx c.0 c.1 in
    let gap = difference_of (right_side P true ws) (least_combined P true ws bx) in
    let minus_least = subtracted_exact b.0 c.0 d.0 with_constant.positive least.positive d.1 in
    let gap_same : IsSame d.0 gap = same_trans d.0 (difference_of b.0 c.0) gap (difference_of_den b.0 c.0 with_constant.positive least.positive) minus_least.same
    (difference_of-same b.0 c.0 (right_side P true ws) (least_combined P true ws bx) right least.same) in
    let quotient = divided_exact d.0 P.scale f.0 minus_least.positive scale f.1 in
    subst (Bounds P ws bx) (ok_is (Bound f.0) v f.2)
    (record {
      same = same_trans f.0 (quotient_of d.0 (whole P.scale)) (bound_of P ws bx) (whole_quotient_den d.0 P.scale scale minus_least.positive) quotient.same
          (quotient_of-same d.0 (whole P.scale) gap (whole P.scale) gap_same (same_refl (whole P.scale)));
      positive = quotient.positive;
    })

pub value-void : (P : Problem) (ws : List Weighted) (bx : List Range) → All (λ (w : Weighted). 0 < w.by.den) ws → value_of P false ws bx ≡ Ok Void
    → IsBelow (right_side P false ws) (least_combined P false ws bx)
value-void P ws bx dens h = says P ws bx Void dens h

pub value-nothing : (P : Problem) (ws : List Weighted) (bx : List Range) → All (λ (w : Weighted). 0 < w.by.den) ws → value_of P false ws bx ≡ Ok Nothing
    → IsAtMost (least_combined P false ws bx) (right_side P false ws)
value-nothing P ws bx dens h = says P ws bx Nothing dens h

pub value-bound : (P : Problem) (ws : List Weighted) (bx : List Range) (w : Fraction) → All (λ (w : Weighted). 0 < w.by.den) ws → pos 1 ≤ℤ P.scale → value_of P true ws bx ≡ Ok (Bound w)
    → IsSame w (bound_of P ws bx)
value-bound P ws bx w dens scale h = (bounds P ws bx (Bound w) dens scale h).same
