-- How many lists of values a list of ranges has.
use Rattle.std.specs.Prelude.{ℕ, ◌*◌, ◌+◌, ℤ, ◌-ℤ◌, List, [], ◌∷◌}
use Rattle.qm_math.specs.Ranges.{IsBetween, count_of, size_of}

-- one value for each range, each between the range's ends
abbrev pub AreWithin : List (ℤ × ℤ) → List ℤ → Type 0
AreWithin [] [] = Unit {0}
AreWithin [] (v ∷ vs) = ⊥
AreWithin (r ∷ ranges) [] = ⊥
AreWithin (r ∷ ranges) (v ∷ vs) = IsBetween r.0 r.1 v × AreWithin ranges vs

-- how many such lists there are: the sizes of the ranges multiplied
abbrev pub count_within : List (ℤ × ℤ) → ℕ
count_within [] = 1
count_within (r ∷ ranges) = size_of r.0 r.1 * count_within ranges

-- the place of such a list among them all, in lexicographic order
abbrev pub place_within : List (ℤ × ℤ) → List ℤ → ℕ
place_within [] vs = 0
place_within (r ∷ ranges) [] = 0
place_within (r ∷ ranges) (v ∷ vs) = count_of (v -ℤ r.0) * count_within ranges + place_within ranges vs
