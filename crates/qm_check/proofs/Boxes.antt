-- Ranges and values that are put into boxes of a game.
use Rattle.std.proofs.Common.{◌≡◌, ℕ, zero, suc, ◌+◌, ◌<◌, ◌≤ℤ◌, Bool, true, false, List, [], ◌∷◌, length, set, drop, arith, subst, refl, ℤ, pos, ◌+ℤ◌, unsigned_abs}
use Rattle.std.specs.Prelude.{◌≤◌, ◌&&◌, int_le, max}
use Rattle.std.specs.Ordering.{int_eq}
use Rattle.std.proofs.lemmas.Bool.{and_parts}
use Rattle.std.proofs.lemmas.Int.{ints}
use Rattle.std.proofs.lemmas.Option.{get_or_from_slice_get}
use Rattle.qm_math.specs.Ranges.{IsBetween}
use Rattle.qm_math.proofs.WholeTests.{le_of_test, eq_of_test}
use Rattle.qm_model.specs.declared.range.Range.{Range}
use Rattle.qm_model.specs.declared.variable.Var.{Var}
use Rattle.qm_model.specs.Boxes.{IsBox, IsInside, bounds_of}
use Rattle.qm_model.specs.Plays.{is_universal}
use Rattle.qm_model.specs.Ranges.{range_at, single, is_in}
use Rattle.qm_model.proofs.BoxLaws.{IsBox-set, inside_trans}
use Rattle.qm_trees.specs.Picks.{fit, fixed, picked}
use Rattle.qm_trees.specs.Ranges.{follows_on, same}
use Rattle.qm_trees.proofs.Moves.{between_of}

-- a range that is put inside another leaves a box
pub box_narrowed : (xs : List Var) (bx : List Range) (var : ℕ) (range : Range) → IsBox xs bx → IsInside range (range_at bx var) → IsBox xs (set bx var range)
box_narrowed xs bx var range box inside =
    IsBox-set xs bx var range box (λ r e. subst (IsInside range) (get_or_from_slice_get bx var r (single (pos 0)) e) inside)

-- ---- what lies inside a range

near_of_between : (low high v : ℤ) → IsBetween low high v → unsigned_abs v ≤ max (unsigned_abs low) (unsigned_abs high)
near_of_between low high v h = omega (arith, ints, h.0, h.1)

pub value_inside : (r : Range) (v : ℤ) → is_in r v ≡ true → IsInside (single v) r
value_inside r v e =
    let between = between_of r v e in
    let is_near = near_of_between r.low r.high v between in
    record { low = between.0; high = between.1; low_near = is_near; high_near = is_near }

-- a range that follows on, and where the next one begins
pub record Following (covered r : Range) : Type 0 where
  pub inside : IsInside r covered
  pub goes_on : covered.low ≤ℤ (r.high +ℤ pos 1)

following_of_ends : (next : ℤ) (covered r : Range) → covered.low ≤ℤ next → r.low ≡ next → r.low ≤ℤ r.high → r.high ≤ℤ covered.high → Following covered r
following_of_ends next covered r reached begins some ends =
    let low : covered.low ≤ℤ r.low = grind (arith, ints) in
    let high_up : covered.low ≤ℤ r.high = grind (arith, ints) in
    let low_down : r.low ≤ℤ covered.high = grind (arith, ints) in
    record {
      inside = record {
        low = low;
        high = ends;
        low_near = near_of_between covered.low covered.high r.low (low, low_down);
        high_near = near_of_between covered.low covered.high r.high (high_up, ends);
      };
      goes_on = grind (arith, ints);
    }

pub following : (next : ℤ) (covered : Range) (last : Bool) (r : Range) → covered.low ≤ℤ next → follows_on next covered.high last r ≡ true → Following covered r
following next covered last r reached e =
    let ends = and_parts (int_eq r.low next && int_le r.low r.high && int_le r.high covered.high) (same last (int_eq r.high covered.high)) e in
    let high = and_parts (int_eq r.low next && int_le r.low r.high) (int_le r.high covered.high) ends.0 in
    let low = and_parts (int_eq r.low next) (int_le r.low r.high) high.0 in
    following_of_ends next covered r reached (eq_of_test r.low next low.0) (le_of_test r.low r.high low.1) (le_of_test r.high covered.high high.1)

-- ---- universal values that are put into a box

pub fixed_is_box : (xs later : List Var) (bx : List Range) (us : List ℤ) → IsBox xs bx → fit later bx us ≡ true → IsBox xs (fixed later bx us)
fixed_is_box xs [] bx us box fits = box
fixed_is_box xs (y ∷ ys) [] us box fits = box
fixed_is_box xs (y ∷ ys) (r ∷ bx) [] box fits = box
fixed_is_box [] (y ∷ ys) (r ∷ bx) (u ∷ us) box fits = absurd box
fixed_is_box (x ∷ xs) (y ∷ ys) (r ∷ bx) (u ∷ us) box fits = by (is_universal y) refl (λ vs f. fixed_is_box xs ys bx vs box.1 f)
  where
    by : (b : Bool) → is_universal y ≡ b → ((vs : List ℤ) → fit ys bx vs ≡ true → IsBox xs (fixed ys bx vs)) → IsBox (x ∷ xs) (fixed (y ∷ ys) (r ∷ bx) (u ∷ us))
    by true e others =
        let here : (is_in r u && fit ys bx us) ≡ true = rw e at fits in
        let both = and_parts (is_in r u) (fit ys bx us) here in
        rw e (inside_trans (single u) r (bounds_of x) (value_inside r u both.0) box.0, others us both.1)
    by false e others =
        let more : fit ys bx (u ∷ us) ≡ true = rw e at fits in
        rw e (box.0, others (u ∷ us) more)

pub picked_is_box : (xs later : List Var) (depth : ℕ) (bx : List Range) (v : ℤ) (us : List ℤ) → IsBox xs bx → depth < length bx → is_in (range_at bx depth) v ≡ true
    → fit later (drop (depth + 1) bx) us ≡ true → IsBox xs (picked depth later bx v us)
picked_is_box xs later depth [] v us box below within fits = absurd (omega (arith, below))
picked_is_box [] later depth (r ∷ bx) v us box below within fits = absurd box
picked_is_box (x ∷ xs) later zero (r ∷ bx) v us box below within fits =
    (inside_trans (single v) r (bounds_of x) (value_inside r v within) box.0, fixed_is_box xs later bx us box.1 fits)
picked_is_box (x ∷ xs) later (suc depth) (r ∷ bx) v us box below within fits =
    let up : suc depth + 1 ≡ suc (depth + 1) = omega arith in
    let others = rw up at fits in
    rw up (box.0, picked_is_box xs later depth bx v us box.1 (omega (arith, below)) within others)
