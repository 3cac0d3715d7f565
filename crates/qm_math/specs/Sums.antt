-- Sums over the items of a list.
use Rattle.std.specs.Prelude.{ℕ, suc, ℤ, pos, ◌+ℤ◌, List, [], ◌∷◌}

-- what f gives for each item and its number, the first item's being `first`, added up
abbrev pub sum_from : {A : Type 0} → (ℕ → A → ℤ) → ℕ → List A → ℤ
sum_from f first [] = pos 0
sum_from f first (a ∷ items) = f first a +ℤ sum_from f (suc first) items

-- what f gives for each item, added up
abbrev pub sum_of_each : {A : Type 0} → (A → ℤ) → List A → ℤ
sum_of_each f [] = pos 0
sum_of_each f (a ∷ items) = f a +ℤ sum_of_each f items
