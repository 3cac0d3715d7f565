-- The first item of a list that has a property.
use Rattle.std.specs.Prelude.{ℕ, List, All, IsSomeAnd, slice_get, take}

-- no item has it
abbrev pub HasNone : {X : Type 0} → (X → Type 0) → List X → Type 0
HasNone P xs = All (λ x. ¬ P x) xs

-- the item of this number has it, and none before
pub record IsFirst {X : Type 0} (P : X → Type 0) (xs : List X) (number : ℕ) : Type 0 where
  pub has : IsSomeAnd (slice_get xs number) P
  pub before : HasNone P (take number xs)
