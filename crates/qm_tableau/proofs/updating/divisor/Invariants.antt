use Rattle.std.proofs.Common.{◌<◌, ◌≤◌, ◌^◌, ℕ, unsigned_abs}
use Rattle.std.specs.Int.{◌∣◌}
use Rattle.qm_tableau.specs.UpdateSteps.{number_at}
use Rattle.qm_tableau.proofs.updating.divisor.Given as goal

abbrev pub invariant-loop-k : goal.invariant-loop-k
invariant-loop-k l = record {
  some : 0 < l.common;
  small : l.common ≤ 2 ^ 125;
  divides : (j : ℕ) → j < l.k → l.common ∣ unsigned_abs (number_at l.step.place l.step.by l.step.factor l.row l.leaving j);
}
