-- Boxes with a range that is narrowed.
use Rattle.std.proofs.Common.{ℕ, List, set, subst, arith, ℤ, pos, ◌≤ℤ◌, unsigned_abs}
use Rattle.std.specs.Prelude.{max, ◌≤◌}
use Rattle.std.proofs.lemmas.Int.{ints}
use Rattle.std.proofs.lemmas.Option.{get_or_from_slice_get}
use Rattle.qm_model.specs.declared.range.Range.{Range}
use Rattle.qm_model.specs.declared.variable.Var.{Var}
use Rattle.qm_model.specs.Boxes.{IsBox, IsInside}
use Rattle.qm_model.proofs.BoxLaws.{IsBox-set}
use Rattle.qm_legal.specs.SearchSteps.{IsOneOf}
use Rattle.qm_model.specs.Ranges.{range_at, single}

pub set_in_box : (xs : List Var) (bx : List Range) (depth : ℕ) (r : Range) → IsBox xs bx → IsInside r (range_at bx depth) → IsBox xs (set bx depth r)
set_in_box xs bx depth r box inside = IsBox-set xs bx depth r box (λ q e. subst (IsInside r) (get_or_from_slice_get bx depth q (single (pos 0)) e) inside)

near : (low high v : ℤ) → low ≤ℤ v → v ≤ℤ high → unsigned_abs v ≤ max (unsigned_abs low) (unsigned_abs high)
near low high v h k = omega (arith, ints, h, k)

-- a range between two values of another
pub between_inside : (outer r : Range) → outer.low ≤ℤ r.low → r.low ≤ℤ r.high → r.high ≤ℤ outer.high → IsInside r outer
between_inside outer r low some high = record {
  low = low;
  high = high;
  low_near = near outer.low outer.high r.low low (omega (arith, ints));
  high_near = near outer.low outer.high r.high (omega (arith, ints)) high;
}

pub one_inside : (outer r : Range) → IsOneOf outer r → IsInside r outer
one_inside outer r one = between_inside outer r one.low (omega (arith, ints, one.single)) one.high
