-- A point of the relaxation over a box in which all whole variables are set is a right leaf at its value.
use Rattle.std.proofs.Common.{◌≡◌, ◌∙◌, refl, sym, ap, subst, ℕ, zero, suc, ◌+◌, ◌-◌, ◌<◌, ◌≤◌, Bool, true, false, List, [], ◌∷◌, length, get_or, drop, take, map, arith, All, ℤ, pos, negsuc, if◌then◌else◌}
use Rattle.std.specs.Prelude.{nat_lt, slice_index_or}
use Rattle.std.proofs.lemmas.Int.{ints}
use Rattle.std.proofs.lemmas.Bool.Decides.{Decides-ltb, nat_tests}
use Rattle.std.proofs.lemmas.List.{get_or-drop, get_or-take, length-take}
use Rattle.std.proofs.lemmas.List.Elements.{All-cons, All-nil}
use Rattle.qm_math.specs.Fraction.{Fraction, HasPositiveDen, IsAtMost, IsSame, whole}
use Rattle.qm_math.specs.Arithmetic.{product_of, quotient_of, sum_of}
use Rattle.qm_math.specs.Ends.{IsWithin}
use Rattle.qm_math.proofs.Compare.{at_most_both}
use Rattle.qm_math.proofs.FractionLaws.{product_of-same, product_of_den, quotient_of-same, same_refl, same_sym, same_trans, sum_of-same, sum_of_den, whole_den, whole_quotient_den}
use Rattle.qm_math.proofs.FractionOrder.{at_most-same, at_most_congr}
use Rattle.qm_math.proofs.Totals.{total_of-same, total_of_den}
use Rattle.qm_model.specs.declared.range.Range.{Range}
use Rattle.qm_model.specs.declared.row.Row.{Row}
use Rattle.qm_model.specs.declared.row.Term.{Term}
use Rattle.qm_model.specs.declared.variable.Var.{Var}
use Rattle.qm_model.specs.declared.game.Problem.{Problem}
use Rattle.qm_model.specs.Boxes.{whole_box_of}
use Rattle.qm_model.specs.Linear.{coefficient}
use Rattle.qm_model.specs.Points.{continuous_vars}
use Rattle.qm_model.specs.Ranges.{range_at, single}
use Rattle.qm_model.specs.Sound.{IsRowOver, IsSound}
use Rattle.qm_tableau.specs.Tables.{entry_of}
use Rattle.qm_trees.specs.BoxPoints.{HoldsAt, IsInBox, form_of, objective_of}
use Rattle.qm_trees.specs.Evaluation.{greatest_end_by, least_end_by}
use Rattle.qm_trees.specs.Leaves.{AreInBounds, HoldsAtWorst, IsRightLeaf, least_objective, sum_at, value_at}
use Rattle.qm_trees.proofs.LeafLines.{sum_at_den, value_den}
use Rattle.qm_simplex.specs.Relaxation.{IsInRelaxation}
use Rattle.qm_simplex.specs.LeafRuns.{leaf_point}
use Rattle.qm_simplex.proofs.PointValues.{form_den}
use Rattle.qm_simplex.proofs.TermForms.{form_of-terms, terms_at, terms_den}

-- ---- points of a box

pub box_dens : (bx : List Range) (xs : List Fraction) → IsInBox bx xs → All HasPositiveDen xs
box_dens [] [] h = All-nil HasPositiveDen
box_dens [] (x ∷ xs) h = absurd h
box_dens (r ∷ bx) [] h = absurd h
box_dens (r ∷ bx) (x ∷ xs) h = All-cons HasPositiveDen x xs h.0 (box_dens bx xs h.2)

pub box_long : (bx : List Range) (xs : List Fraction) → IsInBox bx xs → length xs ≡ length bx
box_long [] [] h = refl
box_long [] (x ∷ xs) h = absurd h
box_long (r ∷ bx) [] h = absurd h
box_long (r ∷ bx) (x ∷ xs) h = ap suc (box_long bx xs h.2)

box_drop : (n : ℕ) (bx : List Range) (xs : List Fraction) → IsInBox bx xs → IsInBox (drop n bx) (drop n xs)
box_drop zero bx xs h = h
box_drop (suc n) [] [] h = h
box_drop (suc n) [] (x ∷ xs) h = absurd h
box_drop (suc n) (r ∷ bx) [] h = absurd h
box_drop (suc n) (r ∷ bx) (x ∷ xs) h = box_drop n bx xs h.2

within_at : (bx : List Range) (xs : List Fraction) (i : ℕ) → IsInBox bx xs → i < length bx → IsWithin (whole (range_at bx i).low) (whole (range_at bx i).high) (entry_of xs i)
within_at [] xs i h below = absurd (omega (arith, below))
within_at (r ∷ bx) [] i h below = absurd h
within_at (r ∷ bx) (x ∷ xs) zero h below = h.1
within_at (r ∷ bx) (x ∷ xs) (suc i) h below = within_at bx xs i h.2 (omega (arith, below))

in_bounds : (vars : List Var) (ys : List Fraction) → IsInBox (whole_box_of vars) ys → AreInBounds vars ys
in_bounds [] [] h = tt
in_bounds [] (y ∷ ys) h = absurd h
in_bounds (x ∷ vars) [] h = absurd h
in_bounds (x ∷ vars) (y ∷ ys) h = (h.0, h.1.0, h.1.1, in_bounds vars ys h.2)

-- ---- ends of ranges of one value

-- the end of a range that has one value is the value
abbrev AreEnds : (ℤ → Range → ℤ) → Type 0
AreEnds end_by = (k : ℤ) (r : Range) → r.low ≡ r.high → end_by k r ≡ r.low

greatest_ends : AreEnds greatest_end_by
greatest_ends (pos n) r one = sym one
greatest_ends (negsuc n) r one = refl

least_ends : AreEnds least_end_by
least_ends (pos n) r one = refl
least_ends (negsuc n) r one = sym one

same_between : (low high : ℤ) (x : Fraction) → low ≡ high → IsWithin (whole low) (whole high) x → IsSame (whole low) x
same_between low high x one within = at_most_both (whole low) x within.0 (subst (λ (h : ℤ). IsAtMost x (whole h)) (sym one) within.1)

module _ (P : Problem) (bx : List Range) (xs : List Fraction) (inside : IsInBox bx xs) (short : P.wholes ≤ length bx) (set : All (λ (r : Range). r.low ≡ r.high) (take P.wholes bx)) where
  dens : All HasPositiveDen xs
  dens = box_dens bx xs inside

  abbrev y : List Fraction
  y = leaf_point P xs

  y_dens : All HasPositiveDen y
  y_dens = box_dens (drop P.wholes bx) y (box_drop P.wholes bx xs inside)

  one_at_whole : (i : ℕ) → i < P.wholes → (range_at bx i).low ≡ (range_at bx i).high
  one_at_whole i below =
      let long : i < length (take P.wholes bx) = omega (arith, below, short, length-take P.wholes bx) in
      let is : get_or (take P.wholes bx) i (single (pos 0)) ≡ get_or bx i (single (pos 0)) = get_or-take P.wholes bx i (single (pos 0)) below in
      subst (λ (r : Range). r.low ≡ r.high) is (set i (single (pos 0)) long)

  module _ (end_by : ℤ → Range → ℤ) (ends : AreEnds end_by) where
    whole_same : (t : Term) → t.var < P.wholes → IsSame (whole (end_by t.coef (range_at bx t.var))) (entry_of xs t.var)
    whole_same t below =
        let one = one_at_whole t.var below in
        rw (ends t.coef (range_at bx t.var) one)
        (same_between (range_at bx t.var).low (range_at bx t.var).high (entry_of xs t.var) one (within_at bx xs t.var inside (omega (arith, below, short))))

    continuous_is : (t : Term) → P.wholes ≤ t.var → slice_index_or y (t.var - P.wholes) (whole (pos 0)) ≡ entry_of xs t.var
    continuous_is t from =
        let at : P.wholes + (t.var - P.wholes) ≡ t.var = omega (arith, from) in
        let is : get_or (drop P.wholes xs) (t.var - P.wholes) (whole (pos 0)) ≡ get_or xs (P.wholes + (t.var - P.wholes)) (whole (pos 0)) =
        get_or-drop P.wholes xs (t.var - P.wholes) (whole (pos 0)) in
        is ∙ ap (λ (i : ℕ). get_or xs i (whole (pos 0))) at

    -- a term's variable has its value of the point
    value_same : (t : Term) → IsSame (value_at end_by P bx y t) (entry_of xs t.var)
    value_same t = by_test (nat_lt t.var P.wholes) refl
      where
        by_test : (b : Bool) → nat_lt t.var P.wholes ≡ b
            → IsSame (if b then whole (end_by t.coef (range_at bx t.var)) else slice_index_or y (t.var - P.wholes) (whole (pos 0))) (entry_of xs t.var)
        by_test true e = whole_same t ((Decides-ltb t.var P.wholes).0 e)
        by_test false e =
            let from : P.wholes ≤ t.var = grind (arith, nat_tests) in
            rw (continuous_is t from) (same_refl (entry_of xs t.var))

    sum_same : (ts : List Term) → IsSame (sum_at (value_at end_by P bx y) ts) (terms_at xs ts)
    sum_same ts =
        total_of-same (λ t. product_of (whole t.coef) (value_at end_by P bx y t)) (λ t. product_of (whole t.coef) (entry_of xs t.var)) ts
        (λ k d h. product_of-same (whole (get_or ts k d).coef) (value_at end_by P bx y (get_or ts k d)) (whole (get_or ts k d).coef) (entry_of xs (get_or ts k d).var)
        (same_refl (whole (get_or ts k d).coef)) (value_same (get_or ts k d)))

  -- what a form comes to there is what its terms do
  form_same_at : (end_by : ℤ → Range → ℤ) → AreEnds end_by → (ts : List Term) → IsSame (form_of (λ n. whole (coefficient ts n)) 0 xs) (sum_at (value_at end_by P bx y) ts)
  form_same_at end_by ends ts =
      same_trans (form_of (λ n. whole (coefficient ts n)) 0 xs) (terms_at xs ts) (sum_at (value_at end_by P bx y) ts) (terms_den xs dens ts)
      (form_of-terms xs dens ts) (same_sym (sum_at (value_at end_by P bx y) ts) (terms_at xs ts) (sum_same end_by ends ts))

  row_holds : (row : Row) → HoldsAt xs row → HoldsAtWorst P bx y row
  row_holds row holds =
      let f = form_of (λ n. whole (coefficient row.terms n)) 0 xs in
      at_most_congr f (whole row.right) (sum_at (value_at greatest_end_by P bx y) row.terms) (whole row.right)
      (form_den (λ n. whole (coefficient row.terms n)) 0 xs (λ n. whole_den (coefficient row.terms n)) dens) (whole_den row.right)
      (form_same_at greatest_end_by greatest_ends row.terms) (same_refl (whole row.right)) holds

  objective_same : IsSame (objective_of P xs) (least_objective P bx y)
  objective_same =
      let f = form_of (λ n. whole (coefficient P.terms n)) 0 xs in
      let s = sum_at (value_at least_end_by P bx y) P.terms in
      let c = whole P.constant in
      quotient_of-same (sum_of f c) (whole P.scale) (sum_of s c) (whole P.scale)
      (sum_of-same f c s c (form_same_at least_end_by least_ends P.terms) (same_refl c)) (same_refl (whole P.scale))

  pub leaf_is_right : (value : Fraction) → IsSound P → drop P.wholes bx ≡ whole_box_of (continuous_vars P) → All (HoldsAt xs) P.rows → 0 < value.den
      → IsSame (objective_of P xs) value → IsRightLeaf P value bx y
  leaf_is_right value sound others rows value_den reached =
      let f = form_of (λ n. whole (coefficient P.terms n)) 0 xs in
      let f_den = form_den (λ n. whole (coefficient P.terms n)) 0 xs (λ n. whole_den (coefficient P.terms n)) dens in
      let o_den = whole_quotient_den (sum_of f (whole P.constant)) P.scale sound.scale_positive (sum_of_den f (whole P.constant) f_den (whole_den P.constant)) in
      record {
        bounds = in_bounds (continuous_vars P) y (subst (λ rs. IsInBox rs y) others (box_drop P.wholes bx xs inside));
        rows = λ k d h. row_holds (get_or P.rows k d) (rows k d h);
        reaches = at_most-same value (least_objective P bx y)
            (same_trans value (objective_of P xs) (least_objective P bx y) o_den (same_sym (objective_of P xs) value reached) objective_same);
      }
