use Rattle.std.proofs.Common.{◌≡◌, ◌≤ℤ◌}
use Rattle.qm_model.specs.Ranges.{range_at}
use Rattle.qm_search.specs.JudgeSteps.{IsKnownPoint}
use Rattle.qm_search.specs.PartSteps.{IsStart}
use Rattle.qm_search.proofs.looks.first_look.Given as goal

abbrev pub invariant-loop-value : goal.invariant-loop-value
invariant-loop-value l = record {
  same : l.bx ≡ l.fn.bx;
  from : (range_at l.fn.bx l.here.depth).low ≤ℤ l.value;
  start : IsStart (range_at l.fn.bx l.here.depth) l.lowest.value;
  point : IsKnownPoint l.here.game.now l.lowest.point;
}
