use Rattle.std.proofs.Common.{◌≡◌, length}
use Rattle.qm_tableau.specs.UpdateSteps.{HasParts, number_at}
use Rattle.qm_tableau.proofs.updating.write.Given as goal

abbrev pub invariant-loop-k : goal.invariant-loop-k
invariant-loop-k l = record {
  parts : HasParts l.divisor (number_at l.step.place l.step.by l.step.factor l.row l.leaving) l.k l.out;
  count : length l.out ≡ length l.fn.out;
}
