use Rattle.std.proofs.Common.{◌≡◌, ℤ, ◌≤ℤ◌, ◌<ℤ◌, ◌-ℤ◌, slice_set, unsigned_abs}
use Rattle.qm_model.specs.Boxes.{IsDead}
use Rattle.qm_legal.specs.SearchSteps.{range_to}
use Rattle.qm_legal.proofs.run.dead_run.Given as goal

abbrev pub invariant-loop-bracket : goal.invariant-loop-bracket
invariant-loop-bracket l = record {
  same : l.bx ≡ l.fn.bx;
  from : l.run.high ≤ℤ l.bracket.low;
  some : l.bracket.low ≤ℤ l.bracket.high;
  high : l.bracket.high ≤ℤ l.fn.within.high;
  dead : IsDead (slice_set l.fn.bx l.here.depth (range_to l.run.low l.bracket.low)) l.row;
  longest : (v : ℤ) → l.bracket.high <ℤ v → v ≤ℤ l.fn.within.high → IsDead (slice_set l.fn.bx l.here.depth (range_to l.run.low v)) l.row → ⊥;
}

abbrev pub decreases-loop-bracket : goal.decreases-loop-bracket
decreases-loop-bracket l = unsigned_abs (l.bracket.high -ℤ l.bracket.low)
