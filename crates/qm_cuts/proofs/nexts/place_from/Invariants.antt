use Rattle.std.proofs.Common.{◌≡◌, ◌-◌, ◌≤◌, ℕ, drop, length}
use Rattle.std.specs.Prelude.{IfSome, slice_get}
use Rattle.qm_model.specs.Linear.{coefficient}
use Rattle.qm_cuts.proofs.nexts.place_from.Given as goal

abbrev pub invariant-loop-low : goal.invariant-loop-low
invariant-loop-low l = record {
  below : l.low ≤ l.high;
  within : l.high ≤ length l.terms;
  before : (n : ℕ) → l.var ≤ n → coefficient (drop l.low l.terms) n ≡ coefficient l.terms n;
  behind : IfSome (slice_get l.terms l.high) (λ t. l.var ≤ t.var);
}

abbrev pub decreases-loop-low : goal.decreases-loop-low
decreases-loop-low l = l.high - l.low
