use Rattle.std.proofs.Common.{◌≡◌, ◌-◌, ◌≤◌, drop, length}
use Rattle.std.specs.Prelude.{IfSome, slice_get}
use Rattle.qm_model.specs.Linear.{coefficient}
use Rattle.qm_combo.proofs.terms.place_of.Given as goal

abbrev pub invariant-loop-low : goal.invariant-loop-low
invariant-loop-low l =
    (l.low ≤ l.high) × (l.high ≤ length l.terms) × (coefficient (drop l.low l.terms) l.var ≡ coefficient l.terms l.var)
    × IfSome (slice_get l.terms l.high) (λ t. l.var ≤ t.var)

abbrev pub decreases-loop-low : goal.decreases-loop-low
decreases-loop-low l = l.high - l.low
