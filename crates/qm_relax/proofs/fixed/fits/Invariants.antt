use Rattle.std.proofs.Common.{◌≤◌, drop, length}
use Rattle.std.specs.Prelude.{◌↔◌}
use Rattle.qm_trees.specs.Picks.{Fit}
use Rattle.qm_relax.proofs.fixed.fits.Given as goal

abbrev pub invariant-loop-at : goal.invariant-loop-at
invariant-loop-at l = record {
  within : l.used ≤ length l.values;
  rest : Fit (drop l.at l.vars) (drop l.at l.ranges) (drop l.used l.values) ↔ Fit l.vars l.ranges l.values;
}
