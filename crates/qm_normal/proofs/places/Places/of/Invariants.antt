use Rattle.std.proofs.Common.{take}
use Rattle.qm_normal.specs.PlaceSteps.{IsPlacesOf}
use Rattle.qm_normal.proofs.places.Places.of.Given as goal

abbrev pub invariant-loop-place : goal.invariant-loop-place
invariant-loop-place l = IsPlacesOf (take l.place l.order) l.places
