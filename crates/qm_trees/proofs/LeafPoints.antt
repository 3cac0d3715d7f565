-- A right leaf's values, over one denominator, meet each row after each prefix in the box and reach the value.
use Rattle.std.proofs.Common.{◌≡◌, ℕ, ◌+◌, ◌-◌, ◌<◌, ◌≤◌, Bool, true, false, List, [], ◌∷◌, length, get_or, map, All, refl, sym, ap, subst, ◌∙◌, ℤ, pos, negsuc, ◌+ℤ◌, ◌*ℤ◌, ◌≤ℤ◌, arith}
use Rattle.std.specs.Prelude.{slice_index_or, nat_lt}
use Rattle.std.specs.List.{AllZip}
use Rattle.std.proofs.Math.IntN.{zero-*ℤ}
use Rattle.std.proofs.lemmas.Int.{ints}
use Rattle.std.proofs.lemmas.Bool.Decides.{nat_tests, Decides-ltb}
use Rattle.std.proofs.lemmas.List.{length-map, length-drop, length-append, get_or-map, get_or_append_left, get_or-append_right}
use Rattle.std.proofs.lemmas.List.Elements.{AllZip-get_or}
use Rattle.std.proofs.lemmas.Slice.Zip.{AllZip-long}
use Rattle.qm_math.specs.Fraction.{Fraction, HasPositiveDen, whole, IsAtMost, IsSame}
use Rattle.qm_math.specs.Arithmetic.{sum_of, product_of, quotient_of}
use Rattle.qm_math.specs.Over.{over, common_den, common_nums}
use Rattle.qm_math.specs.Ranges.{least_product, greatest_product}
use Rattle.qm_math.specs.Sums.{sum_of_each}
use Rattle.qm_math.specs.Totals.{total_of}
use Rattle.qm_math.proofs.Polynomials.{number, ◌⊗◌}
use Rattle.qm_math.proofs.Ring.{x0, x1, x2, ring}
use Rattle.qm_math.proofs.Between.{least_product_le, le_greatest_product}
use Rattle.qm_math.proofs.Compare.{at_most_trans}
use Rattle.qm_math.proofs.FractionLaws.{same_refl, same_sym, same_trans, sum_of_den, product_of_den, product_of-same, product_of-whole, whole_quotient_den}
use Rattle.qm_math.proofs.FractionOrder.{at_most_congr, at_most-same, sum_of-at_most}
use Rattle.qm_math.proofs.Over.{sum_of-over, product_of-whole-over, over-at_most-whole, whole-at_most-over, whole-over, total_of-over, common_den_pos, common_nums-same, quotient_of-over}
use Rattle.qm_math.proofs.Totals.{total_of_den, total_of-at_most}
use Rattle.qm_model.specs.declared.row.Row.{Row}
use Rattle.qm_model.specs.declared.row.Term.{Term}
use Rattle.qm_model.specs.declared.range.Range.{Range}
use Rattle.qm_model.specs.declared.variable.Var.{Var}
use Rattle.qm_model.specs.declared.game.Problem.{Problem}
use Rattle.qm_model.specs.Linear.{HasVarsBelow, IsOrdered, form}
use Rattle.qm_model.specs.Points.{Meets, AreWithinOver, HoldsOver, continuous_vars, objective_at, values_over}
use Rattle.qm_model.specs.Sound.{IsSound, IsRowOver}
use Rattle.qm_model.proofs.Forms.{sum_over-each}
use Rattle.qm_trees.specs.Evaluation.{zero as zero_fraction, least_end_by, greatest_end_by}
use Rattle.qm_model.specs.Ranges.{range_at}
use Rattle.qm_trees.specs.Leaves.{value_at, AreInBounds, sum_at, HoldsAtWorst, least_objective, IsRightLeaf}
use Rattle.qm_trees.specs.Reaching.{HasValue, point_of}
use Rattle.qm_trees.proofs.CombinationSound.{quotient_of-at_most}
use Rattle.qm_trees.proofs.LeafLines.{value_den, sum_at_den}

-- ---- a form as a sum over its terms

-- what a term comes to at these values of all variables
abbrev pub term_at : List ℤ → Term → ℤ
term_at values t = t.coef *ℤ get_or values t.var (pos 0)

pub form-each : (ts : List Term) (values : List ℤ) → IsOrdered ts → HasVarsBelow (length values) ts → form ts values ≡ sum_of_each (term_at values) ts
form-each ts values order below =
    sum_over-each ◌*ℤ◌ (pos 0) (λ a. zero-*ℤ a) ts values order below

-- ---- bounds

within_over : (d : ℕ) (xs : List Var) (ys : List Fraction) (ns : List ℤ) → 0 < d → AllZip IsSame (map (over d) ns) ys → AreInBounds xs ys → AreWithinOver d xs ns
within_over d [] [] [] some same h = tt
within_over d [] [] (n ∷ ns) some same h = absurd same
within_over d [] (y ∷ ys) ns some same h = absurd h
within_over d (x ∷ xs) [] ns some same h = absurd h
within_over d (x ∷ xs) (y ∷ ys) [] some same h = absurd same
within_over d (x ∷ xs) (y ∷ ys) (n ∷ ns) some same h =
    let back : IsSame y (over d n) = same_sym (over d n) y same.0 in (
      (whole-at_most-over d x.low n).0 (at_most_congr (whole x.low) y (whole x.low) (over d n) (omega arith) h.0 (same_refl (whole x.low)) back h.1),
      (over-at_most-whole d n x.high).0 (at_most_congr y (whole x.high) (over d n) (whole x.high) h.0 (omega arith) back (same_refl (whole x.high)) h.2),
      within_over d xs ys ns some same.1 h.3,
    )

-- ---- ends

greatest_end : (k : ℤ) (r : Range) → greatest_product k r.low r.high ≡ k *ℤ greatest_end_by k r
greatest_end (pos n) r = refl
greatest_end (negsuc n) r = refl

least_end : (k : ℤ) (r : Range) → least_product k r.low r.high ≡ k *ℤ least_end_by k r
least_end (pos n) r = refl
least_end (negsuc n) r = refl

-- a whole product, as a fraction over d and as a product of fractions
product_over : (d : ℕ) (k v : ℤ) → IsSame (over d (k *ℤ (v *ℤ pos d))) (product_of (whole k) (whole v))
unfolding product_of
product_over d k v = ring (k ∷ v ∷ pos d ∷ []) ((x0 ⊗ (x1 ⊗ x2)) ⊗ number (pos 1)) ((x0 ⊗ x1) ⊗ x2) refl

whole_product_at_most : (d : ℕ) (k v w : ℤ) → 0 < d → (k *ℤ v) ≤ℤ (k *ℤ w) → IsAtMost (over d (k *ℤ (v *ℤ pos d))) (product_of (whole k) (whole w))
whole_product_at_most d k v w some h =
    at_most_congr (whole (k *ℤ v)) (whole (k *ℤ w)) (over d (k *ℤ (v *ℤ pos d))) (product_of (whole k) (whole w)) (omega arith) (omega arith)
    (same_trans (whole (k *ℤ v)) (product_of (whole k) (whole v)) (over d (k *ℤ (v *ℤ pos d))) (product_of_den (whole k) (whole v) (omega arith) (omega arith))
    (same_sym (product_of (whole k) (whole v)) (whole (k *ℤ v)) (product_of-whole k v))
    (same_sym (over d (k *ℤ (v *ℤ pos d))) (product_of (whole k) (whole v)) (product_over d k v)))
    (same_sym (product_of (whole k) (whole w)) (whole (k *ℤ w)) (product_of-whole k w))
    (omega (arith, ints, h))

whole_product_at_least : (d : ℕ) (k v w : ℤ) → 0 < d → (k *ℤ w) ≤ℤ (k *ℤ v) → IsAtMost (product_of (whole k) (whole w)) (over d (k *ℤ (v *ℤ pos d)))
whole_product_at_least d k v w some h =
    at_most_congr (whole (k *ℤ w)) (whole (k *ℤ v)) (product_of (whole k) (whole w)) (over d (k *ℤ (v *ℤ pos d))) (omega arith) (omega arith)
    (same_sym (product_of (whole k) (whole w)) (whole (k *ℤ w)) (product_of-whole k w))
    (same_trans (whole (k *ℤ v)) (product_of (whole k) (whole v)) (over d (k *ℤ (v *ℤ pos d))) (product_of_den (whole k) (whole v) (omega arith) (omega arith))
    (same_sym (product_of (whole k) (whole v)) (whole (k *ℤ v)) (product_of-whole k v))
    (same_sym (over d (k *ℤ (v *ℤ pos d))) (product_of (whole k) (whole v)) (product_over d k v)))
    (omega (arith, ints, h))

-- ---- a leaf's values after a prefix in the box

module _ (P : Problem) (sound : IsSound P) (prefix : List ℤ) (bx : List Range) (point : List Fraction)
    (long : length prefix ≡ P.wholes) (inside : (i : ℕ) → i < P.wholes → HasValue (range_at bx i) (get_or prefix i (pos 0)))
    (count : length point ≡ length (continuous_vars P)) (proper : All HasPositiveDen point) where
  abbrev pub d : ℕ
  d = common_den point

  d_pos : 0 < d
  d_pos = common_den_pos point proper

  abbrev pub ns : List ℤ
  ns = common_nums point

  abbrev pub values : List ℤ
  values = values_over prefix (point_of point)

  abbrev pub scaled_prefix : List ℤ
  scaled_prefix = map (λ v. v *ℤ pos d) prefix

  nums_same : AllZip IsSame (map (over d) ns) point
  nums_same = common_nums-same point

  length-ns : length ns ≡ length point
  length-ns = sym (AllZip-long IsSame (map (over d) ns) point nums_same ∙ length-map ns (over d))

  length-scaled : length scaled_prefix ≡ P.wholes
  length-scaled = length-map prefix (λ v. v *ℤ pos d) ∙ long

  length-values : length values ≡ length P.vars
  length-values =
      let both : length values ≡ length scaled_prefix + length ns = length-append scaled_prefix ns in
      omega (arith, both, length-scaled, length-ns, count, length-drop P.wholes P.vars, sound.wholes)

  value_whole : (i : ℕ) → i < P.wholes → get_or values i (pos 0) ≡ get_or prefix i (pos 0) *ℤ pos d
  value_whole i h =
      get_or_append_left scaled_prefix ns (pos 0) i (omega (arith, length-scaled))
      ∙ get_or-map (λ v. v *ℤ pos d) prefix i (pos 0) (pos 0) (omega (arith, long))

  value_continuous : (i : ℕ) → P.wholes ≤ i → get_or values i (pos 0) ≡ get_or ns (i - P.wholes) (pos 0)
  value_continuous i h = get_or-append_right scaled_prefix ns P.wholes i (pos 0) length-scaled h

  num_same : (i : ℕ) → i < length point → IsSame (over d (get_or ns i (pos 0))) (slice_index_or point i zero_fraction)
  num_same i h =
      subst (λ (x : Fraction). IsSame x (slice_index_or point i zero_fraction)) (get_or-map (over d) ns i (pos 0) zero_fraction (omega (arith, length-ns)))
      (AllZip-get_or IsSame (map (over d) ns) point i zero_fraction zero_fraction nums_same (omega (arith, length-map ns (over d), length-ns)))

  -- a continuous variable's term is the same both ways
  continuous_same : (t : Term) → P.wholes ≤ t.var → t.var < length P.vars
      → IsSame (over d (term_at values t)) (product_of (whole t.coef) (slice_index_or point (t.var - P.wholes) zero_fraction))
  continuous_same t from below =
      let n = get_or ns (t.var - P.wholes) (pos 0) in
      let y = slice_index_or point (t.var - P.wholes) zero_fraction in
      let in_point : t.var - P.wholes < length point = omega (arith, count, length-drop P.wholes P.vars) in
      let at : term_at values t ≡ t.coef *ℤ n = ap (λ v. t.coef *ℤ v) (value_continuous t.var from) in
      rw at
      (same_trans (over d (t.coef *ℤ n)) (product_of (whole t.coef) (over d n)) (product_of (whole t.coef) y) (product_of_den (whole t.coef) (over d n) (omega arith) d_pos)
      (same_sym (product_of (whole t.coef) (over d n)) (over d (t.coef *ℤ n)) (product_of-whole-over t.coef d n))
      (product_of-same (whole t.coef) (over d n) (whole t.coef) y (same_refl (whole t.coef)) (num_same (t.var - P.wholes) in_point)))

  whole_at_most : (t : Term) → t.var < P.wholes → IsAtMost (over d (term_at values t)) (product_of (whole t.coef) (whole (greatest_end_by t.coef (range_at bx t.var))))
  whole_at_most t below =
      let v = get_or prefix t.var (pos 0) in
      let r = range_at bx t.var in
      let at : term_at values t ≡ t.coef *ℤ (v *ℤ pos d) = ap (λ w. t.coef *ℤ w) (value_whole t.var below) in
      rw at (whole_product_at_most d t.coef v (greatest_end_by t.coef r) d_pos (rw (← greatest_end t.coef r) (le_greatest_product t.coef r.low r.high v (inside t.var below))))

  whole_at_least : (t : Term) → t.var < P.wholes → IsAtMost (product_of (whole t.coef) (whole (least_end_by t.coef (range_at bx t.var)))) (over d (term_at values t))
  whole_at_least t below =
      let v = get_or prefix t.var (pos 0) in
      let r = range_at bx t.var in
      let at : term_at values t ≡ t.coef *ℤ (v *ℤ pos d) = ap (λ w. t.coef *ℤ w) (value_whole t.var below) in
      rw at (whole_product_at_least d t.coef v (least_end_by t.coef r) d_pos (rw (← least_end t.coef r) (least_product_le t.coef r.low r.high v (inside t.var below))))

  abbrev pub worst : Term → Fraction
  worst t = product_of (whole t.coef) (value_at greatest_end_by P bx point t)

  abbrev pub best : Term → Fraction
  best t = product_of (whole t.coef) (value_at least_end_by P bx point t)

  term_at_most : (t : Term) → t.var < length P.vars → IsAtMost (over d (term_at values t)) (worst t)
  term_at_most t below = by (nat_lt t.var P.wholes) refl
    where
      by : (b : Bool) → nat_lt t.var P.wholes ≡ b → IsAtMost (over d (term_at values t)) (worst t)
      by true e = rw e (whole_at_most t ((Decides-ltb t.var P.wholes).0 e))
      by false e =
          let from : P.wholes ≤ t.var = grind (arith, nat_tests) in
          rw e (at_most-same (over d (term_at values t)) (product_of (whole t.coef) (slice_index_or point (t.var - P.wholes) zero_fraction)) (continuous_same t from below))

  term_at_least : (t : Term) → t.var < length P.vars → IsAtMost (best t) (over d (term_at values t))
  term_at_least t below = by (nat_lt t.var P.wholes) refl
    where
      by : (b : Bool) → nat_lt t.var P.wholes ≡ b → IsAtMost (best t) (over d (term_at values t))
      by true e = rw e (whole_at_least t ((Decides-ltb t.var P.wholes).0 e))
      by false e =
          let from : P.wholes ≤ t.var = grind (arith, nat_tests) in
          let y = slice_index_or point (t.var - P.wholes) zero_fraction in
          rw e (at_most-same (product_of (whole t.coef) y) (over d (term_at values t)) (same_sym (over d (term_at values t)) (product_of (whole t.coef) y) (continuous_same t from below)))

  -- the terms' sum over d
  abbrev pub terms_over : List Term → Fraction
  terms_over ts = total_of (λ t. over d (term_at values t)) ts

  terms_over_den : (ts : List Term) → 0 < (terms_over ts).den
  terms_over_den ts = total_of_den (λ t. over d (term_at values t)) ts (λ k e h. d_pos)

  terms_over_form : (ts : List Term) → IsOrdered ts → HasVarsBelow (length P.vars) ts → IsSame (terms_over ts) (over d (form ts values))
  terms_over_form ts order below =
      let e = form-each ts values order (rw length-values below) in
      rw e (total_of-over d (term_at values) ts)

  row_holds_over : (row : Row) → IsRowOver P.vars row → HoldsAtWorst P bx point row → HoldsOver d values row
  row_holds_over row is_row holds =
      let ts = row.terms in
      let right = whole row.right in
      let one : 0 < right.den = omega arith in
      let below = total_of-at_most (λ t. over d (term_at values t)) worst ts (λ k e h. term_at_most (get_or ts k e) (is_row.vars k e h)) in
      let dens = sum_at_den (value_at greatest_end_by P bx point) ts (value_den greatest_end_by P bx point proper) in
      let all = at_most_trans (terms_over ts) (sum_at (value_at greatest_end_by P bx point) ts) right dens below holds in
      (over-at_most-whole d (form ts values) row.right).0
      (at_most_congr (terms_over ts) right (over d (form ts values)) right (terms_over_den ts) one (terms_over_form ts is_row.ordered is_row.vars) (same_refl right) all)

  -- the objective after the prefix is at least the least one
  least_at_most : IsAtMost (least_objective P bx point) (objective_at P prefix (point_of point))
  least_at_most =
      let ts = P.terms in
      let c = whole P.constant in
      let one : 0 < c.den = omega arith in
      let least = sum_at (value_at least_end_by P bx point) ts in
      let dens : 0 < least.den = sum_at_den (value_at least_end_by P bx point) ts (value_den least_end_by P bx point proper) in
      let f = over d (form ts values) in
      let c_over = over d (P.constant *ℤ pos d) in
      let n = form ts values +ℤ (P.constant *ℤ pos d) in
      let above = total_of-at_most best (λ t. over d (term_at values t)) ts (λ k e h. term_at_least (get_or ts k e) (sound.objective_vars k e h)) in
      let form_above : IsAtMost least f = at_most_congr least (terms_over ts) least f dens (terms_over_den ts) (same_refl least) (terms_over_form ts sound.objective_ordered sound.objective_vars) above in
      let total_above : IsAtMost (sum_of least c) (sum_of f c_over) = sum_of-at_most least c f c_over form_above (at_most-same c c_over (whole-over d P.constant)) in
      let n_above : IsAtMost (sum_of least c) (over d n) = at_most_congr (sum_of least c) (sum_of f c_over) (sum_of least c) (over d n) (sum_of_den least c dens one) (sum_of_den f c_over d_pos d_pos)
      (same_refl (sum_of least c)) (sum_of-over d (form ts values) (P.constant *ℤ pos d)) total_above in
      let quotient = quotient_of-at_most (sum_of least c) (over d n) P.scale sound.scale_positive (sum_of_den least c dens one) d_pos n_above in
      at_most_congr (quotient_of (sum_of least c) (whole P.scale)) (quotient_of (over d n) (whole P.scale)) (quotient_of (sum_of least c) (whole P.scale)) (objective_at P prefix (point_of point))
      (whole_quotient_den (sum_of least c) P.scale sound.scale_positive (sum_of_den least c dens one)) (whole_quotient_den (over d n) P.scale sound.scale_positive d_pos)
      (same_refl (quotient_of (sum_of least c) (whole P.scale))) (quotient_of-over d n P.scale sound.scale_positive) quotient

  pub leaf_meets : (v : Fraction) → IsRightLeaf P v bx point → Meets P prefix (point_of point)
  leaf_meets v leaf = record {
    positive = d_pos;
    within = within_over d (continuous_vars P) point ns d_pos nums_same leaf.bounds;
    rows = λ k e h. row_holds_over (get_or P.rows k e) (sound.rows k e h) (leaf.rows k e h);
  }

  pub leaf_reaches : (v : Fraction) → IsRightLeaf P v bx point → IsAtMost v (objective_at P prefix (point_of point))
  leaf_reaches v leaf =
      let ts = P.terms in
      let least = sum_at (value_at least_end_by P bx point) ts in
      let dens : 0 < least.den = sum_at_den (value_at least_end_by P bx point) ts (value_den least_end_by P bx point proper) in
      at_most_trans v (least_objective P bx point) (objective_at P prefix (point_of point))
      (whole_quotient_den (sum_of least (whole P.constant)) P.scale sound.scale_positive (sum_of_den least (whole P.constant) dens (omega arith))) leaf.reaches least_at_most
