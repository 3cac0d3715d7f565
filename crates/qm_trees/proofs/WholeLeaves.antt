-- Where each range has one value and no row is dead, a leaf without continuous values passes at the objective's value.
use Rattle.std.proofs.Common.{◌≡◌, ℕ, ◌+◌, ◌-◌, ◌*◌, ◌<◌, ◌≤◌, ◌^◌, List, [], ◌∷◌, length, get_or, drop, All, refl, sym, ap, ◌∙◌, arith, unsigned_abs, ℤ, pos, negsuc, ◌+ℤ◌, ◌*ℤ◌, ◌≤ℤ◌, ◌<ℤ◌, Bool, true, false, Ok}
use Rattle.std.specs.Prelude.{if◌then◌else◌}
use Rattle.std.specs.Option.{option_map_or}
use Rattle.std.proofs.lemmas.Bool.Decides.{Decides-ltb}
use Rattle.std.proofs.lemmas.Int.{ints, by_lt_z}
use Rattle.std.proofs.lemmas.List.Elements.{All-head, All-tail}
use Rattle.std.proofs.lemmas.List.Sums.{sum_by-cons}
use Rattle.std.proofs.lemmas.Option.{slice_get-get_or}
use Rattle.qm_math.specs.Fraction.{Fraction, whole, is_at_most}
use Rattle.qm_math.specs.Ranges.{reach, least_product, greatest_product}
use Rattle.qm_math.proofs.Between.{least_product_size, greatest_product_size}
use Rattle.qm_math.proofs.WholeTests.{test_of_le}
use Rattle.qm_frac.specs.Arithmetic.{quotient}
use Rattle.qm_frac.specs.Checked.{Checked, and_then, added, multiplied, divided}
use Rattle.qm_frac.proofs.WholeSteps.{added-whole, multiplied-whole}
use Rattle.qm_model.specs.declared.range.Range.{Range}
use Rattle.qm_model.specs.declared.row.Row.{Row}
use Rattle.qm_model.specs.declared.row.Term.{Term}
use Rattle.qm_model.specs.declared.game.Problem.{Problem}
use Rattle.qm_model.specs.Boxes.{IsBox, IsDead, least_value, greatest_value}
use Rattle.qm_model.specs.Linear.{IsOrdered, HasVarsBelow, sum_over}
use Rattle.qm_model.specs.Points.{continuous_vars}
use Rattle.qm_model.specs.Sizes.{reach_in_box, terms_size}
use Rattle.qm_model.specs.Sound.{IsRowOver, IsSound}
use Rattle.qm_model.proofs.BoxLaws.{IsBox-length}
use Rattle.qm_model.proofs.Forms.{sum_of_terms}
use Rattle.qm_model.proofs.TermSums.{sum_over-sum_at}
use Rattle.qm_model.proofs.VariableSizes.{greatest-least_value}
use Rattle.qm_trees.specs.Evaluation.{zero, least_end_by, greatest_end_by}
use Rattle.qm_trees.specs.Leaves.{value_at, add_terms, row_holds, rows_hold, objective_reaches, are_in_bounds, leaf_passes}
use Rattle.qm_model.specs.Ranges.{range_at, single}
use Rattle.qm_trees.proofs.WholeValues.{objective_sizes, row_sizes, objective_vars_below, row_vars_below, greatest_objective, greatest_objective_size, greatest_size, objective_by_scale, at_most_itself}

-- ---- sums of terms

-- ends whose products are no larger than the coefficient times how far the range reaches
pub record AreEnds (end_by : ℤ → Range → ℤ) (product_by : ℤ → Range → ℤ) : Type 0 where
  pub product : (k : ℤ) (r : Range) → k *ℤ end_by k r ≡ product_by k r
  pub size : (k : ℤ) (r : Range) → unsigned_abs (product_by k r) ≤ unsigned_abs k * reach r.low r.high
  pub none : (r : Range) → product_by (pos 0) r ≡ pos 0

are_least_ends : AreEnds least_end_by (λ k r. least_product k r.low r.high)
are_least_ends = record { product = product; size = λ k r. least_product_size k r.low r.high; none = λ r. omega (arith, ints) }
  where
    product : (k : ℤ) (r : Range) → k *ℤ least_end_by k r ≡ least_product k r.low r.high
    product (pos n) r = refl
    product (negsuc n) r = refl

are_greatest_ends : AreEnds greatest_end_by (λ k r. greatest_product k r.low r.high)
are_greatest_ends = record { product = product; size = λ k r. greatest_product_size k r.low r.high; none = λ r. omega (arith, ints) }
  where
    product : (k : ℤ) (r : Range) → k *ℤ greatest_end_by k r ≡ greatest_product k r.low r.high
    product (pos n) r = refl
    product (negsuc n) r = refl

module _ (P : Problem) (bx : List Range) (all_whole : P.wholes ≡ length bx) (end_by product_by : ℤ → Range → ℤ) (ends : AreEnds end_by product_by) where
  -- a term of a whole variable has the end of its range
  value_whole : (t : Term) → t.var < length bx → value_at end_by P bx [] t ≡ whole (end_by t.coef (range_at bx t.var))
  value_whole t h = rw ((Decides-ltb t.var P.wholes).1 (rw all_whole h)) refl

  -- what the term comes to
  abbrev part_at : Term → ℤ
  part_at t = product_by t.coef (get_or bx t.var (single (pos 0)))

  size_at : (t : Term) → t.var < length bx → unsigned_abs (part_at t) ≤ unsigned_abs t.coef * reach_in_box bx t.var
  size_at t h =
      let first : reach_in_box bx t.var ≡ reach (get_or bx t.var (single (pos 0))).low (get_or bx t.var (single (pos 0))).high =
      ap (λ o. option_map_or (λ (r : Range). reach r.low r.high) o 1) (slice_get-get_or bx t.var (single (pos 0)) h) in
      rw first (ends.size t.coef (get_or bx t.var (single (pos 0))))

  term_product : (t : Term) → t.var < length bx → unsigned_abs (part_at t) < 2 ^ 127 → multiplied (whole t.coef) (value_at end_by P bx [] t) ≡ Ok (whole (part_at t))
  term_product t h fits =
      let e : t.coef *ℤ end_by t.coef (range_at bx t.var) ≡ part_at t = ends.product t.coef (range_at bx t.var) in
      ap (λ (x : Fraction). multiplied (whole t.coef) x) (value_whole t h)
      ∙ multiplied-whole t.coef (end_by t.coef (range_at bx t.var)) (rw e fits)
      ∙ ap (λ (n : ℤ). Ok (whole n)) e

  terms_whole : (ts : List Term) (s : ℤ) → HasVarsBelow (length bx) ts → unsigned_abs s + terms_size (reach_in_box bx) ts < 2 ^ 127
      → add_terms (value_at end_by P bx []) ts (whole s) ≡ Ok (whole (s +ℤ sum_of_terms product_by (single (pos 0)) ts 0 bx))
  terms_whole [] s below fits = ap (λ (n : ℤ). Ok (whole n)) (let e : s ≡ s +ℤ pos 0 = omega (arith, ints) in e)
  terms_whole (t ∷ ts) s below fits =
      let here = All-head (λ (u : Term). u.var < length bx) t ts below in
      let after = All-tail (λ (u : Term). u.var < length bx) t ts below in
      let split = sum_by-cons (λ (u : Term). unsigned_abs u.coef * reach_in_box bx u.var) t ts in
      let size = size_at t here in
      let part = part_at t in
      let rest = sum_of_terms product_by (single (pos 0)) ts 0 bx in
      let place : t.var - 0 ≡ t.var = omega arith in
      let next : Fraction → Checked Fraction = λ r. add_terms (value_at end_by P bx []) ts r in
      let more : unsigned_abs (s +ℤ part) + terms_size (reach_in_box bx) ts < 2 ^ 127 = omega (arith, ints, size, split, fits) in
      let moved : (s +ℤ part) +ℤ rest ≡ s +ℤ (part +ℤ rest) = omega (arith, ints) in
      ap (λ (x : Checked Fraction). and_then x (λ p. and_then (added (whole s) p) next)) (term_product t here (omega (arith, size, split, fits)))
      ∙ ap (λ (x : Checked Fraction). and_then x next)
      (added-whole s part (omega (arith, fits)) (omega (arith, size, split, fits)) (omega (arith, ints, size, split, fits)))
      ∙ terms_whole ts (s +ℤ part) after more
      ∙ ap (λ (n : ℤ). Ok (whole n)) (moved ∙ ap (λ (i : ℕ). s +ℤ (product_by t.coef (get_or bx i (single (pos 0))) +ℤ rest)) (sym place))

  -- from 0 on the terms come to the sum over all variables
  terms_from_zero : (ts : List Term) → IsOrdered ts → HasVarsBelow (length bx) ts → terms_size (reach_in_box bx) ts < 2 ^ 127
      → add_terms (value_at end_by P bx []) ts zero ≡ Ok (whole (sum_over product_by ts 0 bx))
  terms_from_zero ts order below fits =
      let start : pos 0 +ℤ sum_of_terms product_by (single (pos 0)) ts 0 bx ≡ sum_of_terms product_by (single (pos 0)) ts 0 bx = omega (arith, ints) in
      terms_whole ts (pos 0) below (omega (arith, fits))
      ∙ ap (λ (n : ℤ). Ok (whole n)) (start ∙ sym (sum_over-sum_at product_by (single (pos 0)) (λ (r : Range). reach r.low r.high) ends.none ts bx order below))

-- ---- the leaf

le_of_not_lt : (a b : ℤ) → ((a <ℤ b) → ⊥) → b ≤ℤ a
le_of_not_lt a b h = by_lt_z a b (λ lt. absurd (h lt)) (λ le. le)

none_left : {A : Type 0} (xs : List A) → drop (length xs) xs ≡ []
none_left [] = refl
none_left (x ∷ xs) = none_left xs

module _ (P : Problem) (bx : List Range) (sound : IsSound P) (box : IsBox P.vars bx) (all_whole : P.wholes ≡ length P.vars) (set : All (λ (r : Range). r.low ≡ r.high) bx) where
  all_in_box : P.wholes ≡ length bx
  all_in_box = all_whole ∙ sym (IsBox-length P.vars bx box)

  -- a row that isn't dead holds
  row_passes : (row : Row) → IsRowOver P.vars row → (IsDead bx row → ⊥) → row_holds P bx [] row ≡ Ok true
  row_passes row over alive =
      let size = row_sizes P bx row over box in
      let sum = terms_from_zero P bx all_in_box greatest_end_by (λ k r. greatest_product k r.low r.high) are_greatest_ends row.terms over.ordered (row_vars_below P bx row over box) (omega (arith, size)) in
      let same = greatest-least_value row.terms bx set in
      let le = le_of_not_lt row.right (least_value row.terms bx) alive in
      ap (λ (x : Checked Fraction). and_then x (λ s. let z : Checked Bool = Ok (is_at_most s (whole row.right)) in z)) sum
      ∙ ap (λ (b : Bool). let z : Checked Bool = Ok b in z)
      (test_of_le (greatest_value row.terms bx *ℤ pos 1) (row.right *ℤ pos 1) (omega (arith, ints, same, le)))

  rows_pass : (rows : List Row) → All (IsRowOver P.vars) rows → All (λ (row : Row). IsDead bx row → ⊥) rows → rows_hold P bx [] rows ≡ Ok true
  rows_pass [] over alive = refl
  rows_pass (row ∷ rows) over alive =
      let first = row_passes row (All-head (IsRowOver P.vars) row rows over) (All-head (λ (r : Row). IsDead bx r → ⊥) row rows alive) in
      ap (λ (x : Checked Bool). and_then x (λ holds. if holds then rows_hold P bx [] rows else Ok false)) first
      ∙ rows_pass rows (All-tail (IsRowOver P.vars) row rows over) (All-tail (λ (r : Row). IsDead bx r → ⊥) row rows alive)

  -- the objective's value
  abbrev bound : Fraction
  bound = quotient (whole (greatest_objective P bx)) (whole P.scale)

  objective_passes : objective_reaches P bound bx [] ≡ Ok true
  objective_passes =
      let size = objective_sizes P bx sound box in
      let least = least_value P.terms bx in
      let sum = terms_from_zero P bx all_in_box least_end_by (λ k r. least_product k r.low r.high) are_least_ends P.terms sound.objective_ordered (objective_vars_below P bx sound box) (omega (arith, size)) in
      let same = greatest-least_value P.terms bx set in
      let total : least +ℤ P.constant ≡ greatest_objective P bx = omega (arith, ints, same) in
      let near : unsigned_abs least < 2 ^ 127 = (let h = greatest_size P bx sound box in let e : unsigned_abs (greatest_value P.terms bx) ≡ unsigned_abs least = ap unsigned_abs same in omega (arith, h, e, size)) in
      let fits : unsigned_abs (least +ℤ P.constant) < 2 ^ 127 = rw total (let h = greatest_objective_size P bx sound box in omega (arith, h)) in
      let last : Fraction → Checked Bool = λ w. Ok (is_at_most bound w) in
      let third : Fraction → Checked Bool = λ k. and_then (divided k (whole P.scale)) last in
      ap (λ (x : Checked Fraction). and_then x (λ s. and_then (added s (whole P.constant)) third)) sum
      ∙ ap (λ (x : Checked Fraction). and_then x third) (added-whole least P.constant near (omega (arith, size)) fits ∙ ap (λ (n : ℤ). Ok (whole n)) total)
      ∙ ap (λ (x : Checked Fraction). and_then x last) (objective_by_scale P bx sound box)
      ∙ ap (λ (b : Bool). let z : Checked Bool = Ok b in z) (at_most_itself bound)

  -- the leaf passes at the objective's bound
  pub whole_leaf_passes : All (λ (row : Row). IsDead bx row → ⊥) P.rows → leaf_passes P (quotient (whole (greatest_objective P bx)) (whole P.scale)) bx [] ≡ Ok true
  unfolding leaf_passes
  whole_leaf_passes alive =
      let none : continuous_vars P ≡ [] = ap (λ (n : ℕ). drop n P.vars) all_whole ∙ none_left P.vars in
      let bounds : are_in_bounds (continuous_vars P) [] ≡ true = ap (λ xs. are_in_bounds xs []) none in
      let after : Checked Bool = and_then (rows_hold P bx [] P.rows) (λ hold. if hold then objective_reaches P bound bx [] else Ok false) in
      ap (λ (b : Bool). let z : Checked Bool = if b then after else Ok false in z) bounds
      ∙ ap (λ (x : Checked Bool). and_then x (λ hold. if hold then objective_reaches P bound bx [] else Ok false)) (rows_pass P.rows sound.rows alive)
      ∙ objective_passes
