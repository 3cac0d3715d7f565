-- Steps of the search: parts of one value each.
use Rattle.std.specs.Prelude.{◌≡◌, ℤ, pos, ◌+ℤ◌, ◌≤ℤ◌, ◌<ℤ◌, List, [], ◌∷◌}
use Rattle.qm_model.specs.declared.range.Range.{Range}
use Rattle.qm_model.specs.Ranges.{single}

-- the ranges of the values from `low` up to before `next`, in order
abbrev pub AreSingles : ℤ → ℤ → List Range → Type 0
AreSingles low next [] = low ≡ next
AreSingles low next (r ∷ rs) = (r ≡ single low) × AreSingles (low +ℤ pos 1) next rs

-- the number past the range's values, where they are counted from its low end on
pub record IsPast (r : Range) (next : ℤ) : Type 0 where
  pub above : r.high <ℤ next
  pub near : r.low <ℤ next → next ≤ℤ (r.high +ℤ pos 1)

-- a value of the range, or its low end where there is none above that
pub record IsStart (r : Range) (start : ℤ) : Type 0 where
  pub from : r.low ≤ℤ start
  pub within : r.low <ℤ start → start ≤ℤ r.high
