-- Boxes, the least and the greatest value of a form over one, and ranges that cover a range.
use Rattle.std.specs.Prelude.{◌≡◌, ℕ, ◌≤◌, max, ℤ, pos, ◌+ℤ◌, ◌≤ℤ◌, ◌<ℤ◌, unsigned_abs, List, [], ◌∷◌, map}
use Rattle.qm_math.specs.Ranges.{least_product, greatest_product}
use Rattle.qm_model.specs.declared.row.Term.{Term}
use Rattle.qm_model.specs.declared.row.Row.{Row}
use Rattle.qm_model.specs.declared.range.Range.{Range}
use Rattle.qm_model.specs.declared.variable.Var.{Var}
use Rattle.qm_model.specs.Linear.{sum_over}

-- the range of a variable's own bounds
abbrev pub bounds_of : Var → Range
bounds_of x = record { low = x.low; high = x.high }

-- the box of the variables' own bounds
abbrev pub whole_box_of : List Var → List Range
whole_box_of xs = map bounds_of xs

-- no value lies in the range
abbrev pub IsEmptyRange : Range → Type 0
IsEmptyRange r = r.high <ℤ r.low

-- The range lies inside the other: its ends lie between the other's, and none is farther from 0 than the
-- farther of the other's. The second follows from the first unless the range is empty.
pub record IsInside (inner outer : Range) : Type 0 where
  pub low : outer.low ≤ℤ inner.low
  pub high : inner.high ≤ℤ outer.high
  pub low_near : unsigned_abs inner.low ≤ max (unsigned_abs outer.low) (unsigned_abs outer.high)
  pub high_near : unsigned_abs inner.high ≤ max (unsigned_abs outer.low) (unsigned_abs outer.high)

-- one range for each variable, inside its bounds
abbrev pub IsBox : List Var → List Range → Type 0
IsBox [] [] = Unit {0}
IsBox [] (r ∷ rs) = ⊥
IsBox (x ∷ xs) [] = ⊥
IsBox (x ∷ xs) (r ∷ rs) = IsInside r (bounds_of x) × IsBox xs rs

-- the least value of a form over a box: each coefficient times its better end
abbrev pub least_value : List Term → List Range → ℤ
least_value ts bx = sum_over (λ k (r : Range). least_product k r.low r.high) ts 0 bx

-- the greatest value: each coefficient times its worse end
abbrev pub greatest_value : List Term → List Range → ℤ
greatest_value ts bx = sum_over (λ k (r : Range). greatest_product k r.low r.high) ts 0 bx

-- the row is dead over the box: its least value exceeds its right side
abbrev pub IsDead : List Range → Row → Type 0
IsDead bx row = row.right <ℤ least_value row.terms bx

-- each range has a value, the first begins at low, each later one right after the one before, the last ends at high
abbrev pub FollowOn : ℤ → ℤ → List Range → Type 0
FollowOn low high [] = low ≡ high +ℤ pos 1
FollowOn low high (r ∷ rs) = (r.low ≡ low) × (low ≤ℤ r.high) × FollowOn (r.high +ℤ pos 1) high rs

-- ranges that cover a range: none where it is empty, else ranges that follow on
abbrev pub Cover : Range → List Range → Type 0
Cover whole [] = IsEmptyRange whole
Cover whole (r ∷ rs) = FollowOn whole.low whole.high (r ∷ rs)
