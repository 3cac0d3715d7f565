use Rattle.std.proofs.Common.{◌≡◌, ◌≤◌, drop, length}
use Rattle.qm_trees.specs.Picks.{fit}
use Rattle.qm_refute.proofs.completion.fits.Given as goal

abbrev pub invariant-loop-at : goal.invariant-loop-at
invariant-loop-at l = record {
  within : l.used ≤ length l.completion;
  rest : fit (drop l.at l.vars) (drop l.at l.ranges) (drop l.used l.completion) ≡ fit l.vars l.ranges l.completion;
}
