-- Boxes: as many ranges as variables, the variables' own bounds, and one range put in another's place.
use Rattle.std.proofs.Common.{◌≡◌, ℕ, zero, suc, List, [], ◌∷◌, length, set, arith, ap, refl}
use Rattle.std.proofs.lemmas.Int.{ints}
use Rattle.std.specs.Prelude.{slice_get}
use Rattle.std.specs.Option.{ForSome}
use Rattle.qm_model.specs.declared.range.Range.{Range}
use Rattle.qm_model.specs.declared.variable.Var.{Var}
use Rattle.qm_model.specs.Boxes.{IsBox, IsInside, bounds_of, whole_box_of}

pub IsBox-length : (xs : List Var) (bx : List Range) → IsBox xs bx → length bx ≡ length xs
IsBox-length [] [] box = refl
IsBox-length [] (r ∷ bx) box = absurd box
IsBox-length (x ∷ xs) [] box = absurd box
IsBox-length (x ∷ xs) (r ∷ bx) box = ap suc (IsBox-length xs bx box.1)

pub inside_itself : (r : Range) → IsInside r r
inside_itself r = record { low = omega (arith, ints); high = omega (arith, ints); low_near = omega arith; high_near = omega arith }

pub inside_trans : (inner middle outer : Range) → IsInside inner middle → IsInside middle outer → IsInside inner outer
inside_trans inner middle outer h k = record {
  low = omega (arith, ints, h.low, k.low);
  high = omega (arith, ints, h.high, k.high);
  low_near = omega arith;
  high_near = omega arith;
}

-- the variables' own bounds are a box
pub whole_box_is_box : (xs : List Var) → IsBox xs (whole_box_of xs)
whole_box_is_box [] = tt
whole_box_is_box (x ∷ xs) = (inside_itself (bounds_of x), whole_box_is_box xs)

-- a box stays one where a range is narrowed
pub IsBox-set : (xs : List Var) (bx : List Range) (var : ℕ) (to : Range) → IsBox xs bx → ForSome (slice_get bx var) (IsInside to) → IsBox xs (set bx var to)
IsBox-set [] [] var to box inside = tt
IsBox-set [] (r ∷ bx) var to box inside = absurd box
IsBox-set (x ∷ xs) [] var to box inside = absurd box
IsBox-set (x ∷ xs) (r ∷ bx) zero to box inside = (inside_trans to r (bounds_of x) (inside r refl) box.0, box.1)
IsBox-set (x ∷ xs) (r ∷ bx) (suc var) to box inside = (box.0, IsBox-set xs bx var to box.1 inside)
