-- A leaf passes exactly where it is right and no operation leaves: the operations have the exact values.
use Rattle.std.proofs.Common.{◌≡◌, ℕ, zero, suc, ◌-◌, ◌<◌, Bool, true, false, List, [], ◌∷◌, length, get_or, All, refl, sym, ap, subst, ◌∙◌, ℤ, pos, ◌*ℤ◌, ◌≤ℤ◌, arith, Ok}
use Rattle.std.specs.Prelude.{◌&&◌, ◌↔◌, if◌then◌else◌, IsOk, slice_index_or, nat_lt}
use Rattle.std.proofs.lemmas.Int.{ints}
use Rattle.std.proofs.lemmas.Bool.{and_from, and_parts}
use Rattle.std.proofs.lemmas.Bool.Decides.{Decides-ltb}
use Rattle.std.proofs.lemmas.List.Elements.{All-cons, All-nil, All-head, All-tail}
use Rattle.qm_math.specs.Fraction.{Fraction, HasPositiveDen, whole, IsAtMost, IsSame, is_at_most}
use Rattle.qm_math.specs.Arithmetic.{sum_of, product_of, quotient_of, inverse_of}
use Rattle.qm_math.proofs.FractionLaws.{same_refl, same_sym, same_trans, sum_of-same, sum_of_assoc, sum_of-zero, zero-sum_of, sum_of_den, product_of_den, product_of-same, whole_quotient_den}
use Rattle.qm_math.proofs.FractionOrder.{at_most_congr}
use Rattle.qm_math.proofs.Totals.{total_of_den}
use Rattle.qm_math.proofs.WholeTests.{le_of_test, test_of_le}
use Rattle.qm_frac.specs.Checked.{Checked, and_then, added, multiplied, divided}
use Rattle.qm_frac.proofs.CheckedLaws.{added-value, multiplied-value, divided-value, IsFrac-added, IsFrac-multiplied, IsFrac-divided}
use Rattle.qm_model.specs.declared.row.Row.{Row}
use Rattle.qm_model.specs.declared.row.Term.{Term}
use Rattle.qm_model.specs.declared.range.Range.{Range}
use Rattle.qm_model.specs.declared.variable.Var.{Var}
use Rattle.qm_model.specs.declared.game.Problem.{Problem}
use Rattle.qm_model.specs.Points.{continuous_vars}
use Rattle.qm_trees.specs.Evaluation.{zero as zero_fraction, least_end_by, greatest_end_by}
use Rattle.qm_trees.specs.Leaves.{value_at, AreInBounds, sum_at, HoldsAtWorst, least_objective, IsRightLeaf, add_terms, row_holds, rows_hold, objective_reaches, are_in_bounds, leaf_passes}
use Rattle.qm_trees.specs.PolicyRight.{IsLeafInRange}
use Rattle.qm_trees.proofs.Lines.{ok_is, bind_parts, bind_ok}

-- ---- the operations

divided_den : (a r : Fraction) (k : ℤ) → pos 1 ≤ℤ k → 0 < a.den → divided a (whole k) ≡ Ok r → 0 < r.den
divided_den a r k h some e = (IsFrac-divided a (whole k) r some (omega (arith, ints)) e).positive

-- ---- the sum of terms

-- r is the sum of s and all the terms
pub record IsSum (value : Term → Fraction) (ts : List Term) (s r : Fraction) : Type 0 where
  pub same : IsSame r (sum_of s (sum_at value ts))
  pub positive : 0 < r.den

AllDens : (Term → Fraction) → List Term → Type 0
AllDens value ts = All (λ t. 0 < (value t).den) ts

abbrev pub HasDens : (Term → Fraction) → Type 0
HasDens value = (t : Term) → 0 < (value t).den

pub sum_at_den : (value : Term → Fraction) (ts : List Term) → HasDens value → 0 < (sum_at value ts).den
sum_at_den value ts dens = total_of_den (λ t. product_of (whole t.coef) (value t)) ts (λ k d h. product_of_den (whole (get_or ts k d).coef) (value (get_or ts k d)) (omega arith) (dens (get_or ts k d)))

-- a step: p is the term's product, q the sum with it, r the sum with all
sum_step : (k x s p q t r : Fraction) → 0 < k.den → 0 < x.den → 0 < s.den → 0 < p.den → 0 < q.den → 0 < t.den
    → IsSame p (product_of k x) → IsSame q (sum_of s p) → IsSame r (sum_of q t) → IsSame r (sum_of s (sum_of (product_of k x) t))
sum_step k x s p q t r kd xd sd pd qd td product first rest =
    let kx = product_of k x in
    let kxd = product_of_den k x kd xd in
    let q_is : IsSame q (sum_of s kx) = same_trans q (sum_of s p) (sum_of s kx) (sum_of_den s p sd pd) first (sum_of-same s p s kx (same_refl s) product) in
    let with_rest : IsSame (sum_of q t) (sum_of (sum_of s kx) t) = sum_of-same q t (sum_of s kx) t q_is (same_refl t) in
    same_trans r (sum_of q t) (sum_of s (sum_of kx t)) (sum_of_den q t qd td) rest
    (same_trans (sum_of q t) (sum_of (sum_of s kx) t) (sum_of s (sum_of kx t)) (sum_of_den (sum_of s kx) t (sum_of_den s kx sd kxd) td) with_rest (sum_of_assoc s kx t))

pub sum_exact : (value : Term → Fraction) (ts : List Term) (s r : Fraction) → HasDens value → 0 < s.den → add_terms value ts s ≡ Ok r → IsSum value ts s r
sum_exact value [] s r dens some e =
    let same : s ≡ r = ok_is s r e in
    subst (IsSum value [] s) same (record { same = same_sym (sum_of s (whole (pos 0))) s (sum_of-zero s); positive = some })
sum_exact value (t ∷ ts) s r dens some e =
    let product = bind_parts (multiplied (whole t.coef) (value t)) (λ p. and_then (added s p) (λ q. add_terms value ts q)) r e in
    let p = product.0 in
    let addition = bind_parts (added s p) (λ q. add_terms value ts q) r product.2 in
    let q = addition.0 in
    let one : 0 < (whole t.coef).den = omega arith in
    let p_den = (IsFrac-multiplied (whole t.coef) (value t) p one (dens t) product.1).positive in
    let q_den = (IsFrac-added s p q some p_den addition.1).positive in
    let rest = sum_exact value ts q r dens q_den addition.2 in
    record {
      same = sum_step (whole t.coef) (value t) s p q (sum_at value ts) r one (dens t) some p_den q_den (sum_at_den value ts dens)
          (multiplied-value (whole t.coef) (value t) p product.1) (added-value s p q addition.1) rest.same;
      positive = rest.positive;
    }

-- a sum from 0 on is the exact one
pub sum_from_zero : (value : Term → Fraction) (ts : List Term) (r : Fraction) → HasDens value → add_terms value ts zero_fraction ≡ Ok r → IsSame r (sum_at value ts) × (0 < r.den)
sum_from_zero value ts r dens e =
    let sum = sum_exact value ts zero_fraction r dens (omega arith) e in
    let t = sum_at value ts in
    (same_trans r (sum_of zero_fraction t) t (sum_of_den zero_fraction t (omega arith) (sum_at_den value ts dens)) sum.same (zero-sum_of t), sum.positive)

-- ---- the values of terms

either_den : (b : Bool) (x y : Fraction) → 0 < x.den → 0 < y.den → 0 < (if b then x else y).den
either_den true x y h k = h
either_den false x y h k = k

proper_at : (ys : List Fraction) (i : ℕ) → All HasPositiveDen ys → 0 < (slice_index_or ys i zero_fraction).den
proper_at [] i h = omega arith
proper_at (y ∷ ys) zero h = All-head HasPositiveDen y ys h
proper_at (y ∷ ys) (suc i) h = proper_at ys i (All-tail HasPositiveDen y ys h)

pub value_den : (end_by : ℤ → Range → ℤ) (P : Problem) (bx : List Range) (point : List Fraction) → All HasPositiveDen point → HasDens (value_at end_by P bx point)
value_den end_by P bx point proper t =
    either_den (nat_lt t.var P.wholes) _ (slice_index_or point (t.var - P.wholes) zero_fraction) (omega arith) (proper_at point (t.var - P.wholes) proper)

-- ---- rows

module _ (P : Problem) (bx : List Range) (point : List Fraction) where
  worst_sum : Row → Fraction
  worst_sum row = sum_at (value_at greatest_end_by P bx point) row.terms

  -- what a row's test answers is whether it holds exactly
  row_says : (row : Row) (b : Bool) → All HasPositiveDen point → row_holds P bx point row ≡ Ok b → (b ≡ true) ↔ HoldsAtWorst P bx point row
  row_says row b proper e =
      let value = value_at greatest_end_by P bx point in
      let dens = value_den greatest_end_by P bx point proper in
      let step = bind_parts (add_terms value row.terms zero_fraction) (λ s. Ok (is_at_most s (whole row.right))) b e in
      let s = step.0 in
      let sum = sum_from_zero value row.terms s dens step.1 in
      let t = sum_at value row.terms in
      let one : 0 < (whole row.right).den = omega arith in
      let test = ok_is (is_at_most s (whole row.right)) b step.2 in (
        (λ yes. at_most_congr s (whole row.right) t (whole row.right) sum.1 one sum.0 (same_refl (whole row.right))
            (le_of_test (s.num *ℤ pos 1) (row.right *ℤ pos s.den) (test ∙ yes))),
        λ holds. sym test ∙ test_of_le (s.num *ℤ pos 1) (row.right *ℤ pos s.den)
            (at_most_congr t (whole row.right) s (whole row.right) (sum_at_den value row.terms dens) one (same_sym s t sum.0) (same_refl (whole row.right)) holds),
      )

  rows_parts : (row : Row) (rows : List Row) → rows_hold P bx point (row ∷ rows) ≡ Ok true → (row_holds P bx point row ≡ Ok true) × (rows_hold P bx point rows ≡ Ok true)
  rows_parts row rows e =
      let step = bind_parts (row_holds P bx point row) (λ holds. if holds then rows_hold P bx point rows else Ok false) true e in
      by step.0 step.1 step.2
    where
      by : (b : Bool) → row_holds P bx point row ≡ Ok b → (if b then rows_hold P bx point rows else Ok false) ≡ Ok true
          → (row_holds P bx point row ≡ Ok true) × (rows_hold P bx point rows ≡ Ok true)
      by true is rest = (is, rest)
      by false is rest = cc

  rows_pass : (rows : List Row) → rows_hold P bx point rows ≡ Ok true → All (λ row. row_holds P bx point row ≡ Ok true) rows
  rows_pass [] e = All-nil (λ row. row_holds P bx point row ≡ Ok true)
  rows_pass (row ∷ rows) e =
      let parts = rows_parts row rows e in
      All-cons (λ r. row_holds P bx point r ≡ Ok true) row rows parts.0 (rows_pass rows parts.1)

  pass_rows : (rows : List Row) → All (λ row. row_holds P bx point row ≡ Ok true) rows → rows_hold P bx point rows ≡ Ok true
  pass_rows [] all = refl
  pass_rows (row ∷ rows) all =
      let first : row_holds P bx point row ≡ Ok true = All-head (λ r. row_holds P bx point r ≡ Ok true) row rows all in
      ap (λ x. and_then x (λ holds. if holds then rows_hold P bx point rows else Ok false)) first
      ∙ pass_rows rows (All-tail (λ r. row_holds P bx point r ≡ Ok true) row rows all)

  row_passes : (row : Row) → All HasPositiveDen point → IsOk (row_holds P bx point row) → HoldsAtWorst P bx point row → row_holds P bx point row ≡ Ok true
  row_passes row proper ok holds =
      let b = bind_ok (row_holds P bx point row) ok in
      b.1 ∙ ap (λ c. Ok c) ((row_says row b.0 proper b.1).1 holds)

  -- ---- the objective

  least_sum : Fraction
  least_sum = sum_at (value_at least_end_by P bx point) P.terms

  objective_says : (v : Fraction) (b : Bool) → pos 1 ≤ℤ P.scale → 0 < v.den → All HasPositiveDen point → objective_reaches P v bx point ≡ Ok b
      → (b ≡ true) ↔ IsAtMost v (least_objective P bx point)
  objective_says v b scale v_den proper e =
      let value = value_at least_end_by P bx point in
      let dens = value_den least_end_by P bx point proper in
      let first = bind_parts (add_terms value P.terms zero_fraction) (λ s. and_then (added s (whole P.constant)) (λ k. and_then (divided k (whole P.scale)) (λ w. Ok (is_at_most v w)))) b e in
      let s = first.0 in
      let sum = sum_from_zero value P.terms s dens first.1 in
      let second = bind_parts (added s (whole P.constant)) (λ k. and_then (divided k (whole P.scale)) (λ w. Ok (is_at_most v w))) b first.2 in
      let k = second.0 in
      let third = bind_parts (divided k (whole P.scale)) (λ w. Ok (is_at_most v w)) b second.2 in
      let w = third.0 in
      let t = sum_at value P.terms in
      let t_den = sum_at_den value P.terms dens in
      let one : 0 < (whole P.constant).den = omega arith in
      let total = sum_of t (whole P.constant) in
      let total_den = sum_of_den t (whole P.constant) t_den one in
      let k_den = (IsFrac-added s (whole P.constant) k sum.1 one second.1).positive in
      let k_is : IsSame k total = same_trans k (sum_of s (whole P.constant)) total (sum_of_den s (whole P.constant) sum.1 one) (added-value s (whole P.constant) k second.1)
      (sum_of-same s (whole P.constant) t (whole P.constant) sum.0 (same_refl (whole P.constant))) in
      let by_scale = inverse_of (whole P.scale) in
      let w_den = divided_den k w P.scale scale k_den third.1 in
      let w_is : IsSame w (quotient_of total (whole P.scale)) = same_trans w (quotient_of k (whole P.scale)) (quotient_of total (whole P.scale)) (whole_quotient_den k P.scale scale k_den)
      (divided-value k (whole P.scale) w third.1) (product_of-same k by_scale total by_scale k_is (same_refl by_scale)) in
      let test = ok_is (is_at_most v w) b third.2 in (
        (λ yes. at_most_congr v w v (quotient_of total (whole P.scale)) v_den w_den (same_refl v) w_is (le_of_test (v.num *ℤ pos w.den) (w.num *ℤ pos v.den) (test ∙ yes))),
        λ reaches. sym test ∙ test_of_le (v.num *ℤ pos w.den) (w.num *ℤ pos v.den)
            (at_most_congr v (quotient_of total (whole P.scale)) v w v_den (whole_quotient_den total P.scale scale total_den) (same_refl v) (same_sym w (quotient_of total (whole P.scale)) w_is) reaches),
      )

-- ---- bounds

bounds_of_test : (xs : List Var) (ys : List Fraction) → are_in_bounds xs ys ≡ true → AreInBounds xs ys
bounds_of_test [] [] e = tt
bounds_of_test [] (y ∷ ys) e = cc
bounds_of_test (x ∷ xs) [] e = cc
bounds_of_test (x ∷ xs) (y ∷ ys) e =
    let outer = and_parts (nat_lt 0 y.den && is_at_most (whole x.low) y && is_at_most y (whole x.high)) (are_in_bounds xs ys) e in
    let ends = and_parts (nat_lt 0 y.den && is_at_most (whole x.low) y) (is_at_most y (whole x.high)) outer.0 in
    let inner = and_parts (nat_lt 0 y.den) (is_at_most (whole x.low) y) ends.0 in (
      (Decides-ltb 0 y.den).0 inner.0,
      le_of_test (x.low *ℤ pos y.den) (y.num *ℤ pos 1) inner.1,
      le_of_test (y.num *ℤ pos 1) (x.high *ℤ pos y.den) ends.1,
      bounds_of_test xs ys outer.1,
    )

test_of_bounds : (xs : List Var) (ys : List Fraction) → AreInBounds xs ys → are_in_bounds xs ys ≡ true
test_of_bounds [] [] h = refl
test_of_bounds [] (y ∷ ys) h = absurd h
test_of_bounds (x ∷ xs) [] h = absurd h
test_of_bounds (x ∷ xs) (y ∷ ys) h =
    and_from (nat_lt 0 y.den && is_at_most (whole x.low) y && is_at_most y (whole x.high)) (are_in_bounds xs ys)
    (and_from (nat_lt 0 y.den && is_at_most (whole x.low) y) (is_at_most y (whole x.high))
    (and_from (nat_lt 0 y.den) (is_at_most (whole x.low) y) ((Decides-ltb 0 y.den).1 h.0) (test_of_le (x.low *ℤ pos y.den) (y.num *ℤ pos 1) h.1))
    (test_of_le (y.num *ℤ pos 1) (x.high *ℤ pos y.den) h.2))
    (test_of_bounds xs ys h.3)

pub AreInBounds-length : (xs : List Var) (ys : List Fraction) → AreInBounds xs ys → length ys ≡ length xs
AreInBounds-length [] [] h = refl
AreInBounds-length [] (y ∷ ys) h = absurd h
AreInBounds-length (x ∷ xs) [] h = absurd h
AreInBounds-length (x ∷ xs) (y ∷ ys) h = ap suc (AreInBounds-length xs ys h.3)

pub AreInBounds-dens : (xs : List Var) (ys : List Fraction) → AreInBounds xs ys → All HasPositiveDen ys
AreInBounds-dens [] [] h = All-nil HasPositiveDen
AreInBounds-dens [] (y ∷ ys) h = absurd h
AreInBounds-dens (x ∷ xs) [] h = absurd h
AreInBounds-dens (x ∷ xs) (y ∷ ys) h = All-cons HasPositiveDen y ys h.0 (AreInBounds-dens xs ys h.3)

-- ---- leaves

chosen : (b : Bool) (x : Checked Bool) → (if b then x else Ok false) ≡ Ok true → (b ≡ true) × (x ≡ Ok true)
chosen true x e = (refl, e)
chosen false x e = cc

module _ (P : Problem) (v : Fraction) (bx : List Range) (point : List Fraction) where
  pub leaf_of_passes : pos 1 ≤ℤ P.scale → 0 < v.den → leaf_passes P v bx point ≡ Ok true → IsRightLeaf P v bx point × IsLeafInRange P v bx point
  unfolding leaf_passes
  leaf_of_passes scale v_den e =
      let bounds = chosen (are_in_bounds (continuous_vars P) point) (and_then (rows_hold P bx point P.rows) (λ hold. if hold then objective_reaches P v bx point else Ok false)) e in
      let step = bind_parts (rows_hold P bx point P.rows) (λ hold. if hold then objective_reaches P v bx point else Ok false) true bounds.1 in
      let second = chosen step.0 (objective_reaches P v bx point) step.2 in
      let rows = rows_pass P bx point P.rows (step.1 ∙ ap (λ b. Ok b) second.0) in
      let within = bounds_of_test (continuous_vars P) point bounds.0 in
      let proper = AreInBounds-dens (continuous_vars P) point within in (
        record {
          bounds = within;
          rows = λ k d h. (row_says P bx point (get_or P.rows k d) true proper (rows k d h)).0 refl;
          reaches = (objective_says P bx point v true scale v_den proper second.1).0 refl;
        },
        (λ k d h. ok_from (row_holds P bx point (get_or P.rows k d)) (rows k d h), ok_from (objective_reaches P v bx point) second.1),
      )
    where
      ok_from : (x : Checked Bool) → x ≡ Ok true → IsOk x
      ok_from x e = rw e refl

  pub leaf_passes_of : pos 1 ≤ℤ P.scale → 0 < v.den → IsRightLeaf P v bx point → IsLeafInRange P v bx point → leaf_passes P v bx point ≡ Ok true
  unfolding leaf_passes
  leaf_passes_of scale v_den leaf range =
      let proper = AreInBounds-dens (continuous_vars P) point leaf.bounds in
      let bounds = test_of_bounds (continuous_vars P) point leaf.bounds in
      let rows = pass_rows P bx point P.rows (λ k d h. row_passes P bx point (get_or P.rows k d) proper (range.0 k d h) (leaf.rows k d h)) in
      let b = bind_ok (objective_reaches P v bx point) range.1 in
      let last : objective_reaches P v bx point ≡ Ok true = b.1 ∙ ap (λ c. Ok c) ((objective_says P bx point v b.0 scale v_den proper b.1).1 leaf.reaches) in
      ap (λ c. if c then and_then (rows_hold P bx point P.rows) (λ hold. if hold then objective_reaches P v bx point else Ok false) else Ok false) bounds
      ∙ ap (λ x. and_then x (λ hold. if hold then objective_reaches P v bx point else Ok false)) rows
      ∙ last
