-- Ranges that are put into boxes of a game.
use Rattle.std.proofs.Common.{◌≡◌, ℕ, ◌≤ℤ◌, Bool, true, List, set, arith, subst, ℤ, pos, ◌+ℤ◌, unsigned_abs}
use Rattle.std.specs.Prelude.{◌≤◌, ◌&&◌, int_le, max}
use Rattle.std.specs.Ordering.{int_eq}
use Rattle.std.proofs.lemmas.Bool.{and_parts}
use Rattle.std.proofs.lemmas.Int.{ints}
use Rattle.std.proofs.lemmas.Option.{get_or_from_slice_get}
use Rattle.qm_math.specs.Ranges.{IsBetween}
use Rattle.qm_math.proofs.WholeTests.{le_of_test, eq_of_test}
use Rattle.qm_model.specs.declared.range.Range.{Range}
use Rattle.qm_model.specs.declared.game.Problem.{Problem}
use Rattle.qm_model.specs.Boxes.{IsBox, IsInside}
use Rattle.qm_model.specs.Ranges.{range_at, single, is_in}
use Rattle.qm_model.proofs.BoxLaws.{IsBox-set}
use Rattle.qm_trees.specs.Ranges.{follows_on, same}
use Rattle.qm_trees.proofs.Moves.{between_of}

-- a range that is put inside another leaves a box of the game
pub box_narrowed : (P : Problem) (bx : List Range) (depth : ℕ) (range : Range) → IsBox P.vars bx → IsInside range (range_at bx depth) → IsBox P.vars (set bx depth range)
box_narrowed P bx depth range box inside =
    IsBox-set P.vars bx depth range box (λ r e. subst (IsInside range) (get_or_from_slice_get bx depth r (single (pos 0)) e) inside)

-- ---- ranges inside another

near_of_between : (low high v : ℤ) → IsBetween low high v → unsigned_abs v ≤ max (unsigned_abs low) (unsigned_abs high)
near_of_between low high v h = omega (arith, ints, h.0, h.1)

pub value_inside : (r : Range) (v : ℤ) → is_in r v ≡ true → IsInside (single v) r
value_inside r v e =
    let between = between_of r v e in
    let is_near = near_of_between r.low r.high v between in
    record { low = between.0; high = between.1; low_near = is_near; high_near = is_near }

-- a part that follows on
pub record Following (covered r : Range) : Type 0 where
  pub inside : IsInside r covered
  pub goes_on : covered.low ≤ℤ (r.high +ℤ pos 1)

following_of_ends : (next : ℤ) (covered r : Range) → covered.low ≤ℤ next → r.low ≡ next → r.low ≤ℤ r.high → r.high ≤ℤ covered.high → Following covered r
following_of_ends next covered r reached begins some ends =
    let low : covered.low ≤ℤ r.low = grind (arith, ints) in
    let high_up : covered.low ≤ℤ r.high = grind (arith, ints) in
    let low_down : r.low ≤ℤ covered.high = grind (arith, ints) in
    record {
      inside = record {
        low = low;
        high = ends;
        low_near = near_of_between covered.low covered.high r.low (low, low_down);
        high_near = near_of_between covered.low covered.high r.high (high_up, ends);
      };
      goes_on = grind (arith, ints);
    }

pub following : (next : ℤ) (covered : Range) (last : Bool) (r : Range) → covered.low ≤ℤ next → follows_on next covered.high last r ≡ true → Following covered r
following next covered last r reached e =
    let ends = and_parts (int_eq r.low next && int_le r.low r.high && int_le r.high covered.high) (same last (int_eq r.high covered.high)) e in
    let high = and_parts (int_eq r.low next && int_le r.low r.high) (int_le r.high covered.high) ends.0 in
    let low = and_parts (int_eq r.low next) (int_le r.low r.high) high.0 in
    following_of_ends next covered r reached (eq_of_test r.low next low.0) (le_of_test r.low r.high low.1) (le_of_test r.high covered.high high.1)
