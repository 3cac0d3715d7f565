use Rattle.std.proofs.Common.{◌≡◌, ℕ, ◌+◌, ◌-◌, length}
use Rattle.qm_normal.specs.PlaceSteps.{place_in}
use Rattle.qm_normal.proofs.places.Places.reach.Given as goal

abbrev pub invariant-loop-self : goal.invariant-loop-self
invariant-loop-self l = (other : ℕ) → place_in l.self other ≡ place_in l.initial.self other

abbrev pub decreases-loop-self : goal.decreases-loop-self
decreases-loop-self l = l.name + 1 - length l.self.places
