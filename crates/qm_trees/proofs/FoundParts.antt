-- Ranges that cover a range have each of its values.
use Rattle.std.proofs.Common.{suc, List, [], ◌∷◌, map, refl, ℤ, pos, ◌+ℤ◌, ◌≤ℤ◌, ◌<ℤ◌, arith, inl, inr}
use Rattle.std.specs.Prelude.{◌⊎◌, Any}
use Rattle.std.proofs.lemmas.Int.{ints}
use Rattle.qm_model.specs.declared.range.Range.{Range}
use Rattle.qm_model.specs.Boxes.{Cover, FollowOn}
use Rattle.qm_trees.specs.Reaching.{HasValue}

-- some part's range has the value
abbrev pub Finds : {A : Type 0} → (A → Range) → List A → ℤ → Type 0
Finds range_of parts v = Any (λ part. HasValue (range_of part) v) parts

finds_later : {A : Type 0} (range_of : A → Range) (part : A) (parts : List A) (v : ℤ) → Finds range_of parts v → Finds range_of (part ∷ parts) v
finds_later range_of part parts v (k, x, h, is, has) = (suc k, x, omega arith, is, has)

le_or_lt : (a b : ℤ) → (a ≤ℤ b) ⊎ (b <ℤ a)
le_or_lt a b = grind (arith, ints)

follow_finds : {A : Type 0} (range_of : A → Range) (low high : ℤ) (parts : List A) (v : ℤ) → FollowOn low high (map range_of parts) → low ≤ℤ v → v ≤ℤ high → Finds range_of parts v
follow_finds range_of low high [] v follow from to = absurd (omega (arith, ints, follow))
follow_finds range_of low high (part ∷ parts) v follow from to = elim (le_or_lt v (range_of part).high) [
  | inl h ↦ (0, part, omega arith, refl, (omega (arith, ints, follow.0), h))
  | inr h ↦ finds_later range_of part parts v (follow_finds range_of ((range_of part).high +ℤ pos 1) high parts v follow.2 (omega (arith, ints)) to)
]

pub cover_finds : {A : Type 0} (range_of : A → Range) (covered : Range) (parts : List A) (v : ℤ) → Cover covered (map range_of parts) → HasValue covered v → Finds range_of parts v
cover_finds range_of covered [] v cover has = absurd (omega (arith, ints, cover, has.0, has.1))
cover_finds range_of covered (part ∷ parts) v cover has = follow_finds range_of covered.low covered.high (part ∷ parts) v cover has.0 has.1
