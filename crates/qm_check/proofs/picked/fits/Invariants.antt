use Rattle.std.proofs.Common.{◌≡◌, drop}
use Rattle.qm_trees.specs.Picks.{fit}
use Rattle.qm_check.proofs.picked.fits.Given as goal

abbrev pub invariant-loop-at : goal.invariant-loop-at
invariant-loop-at l = fit (drop l.at l.vars) (drop l.at l.ranges) l.left ≡ fit l.vars l.ranges l.completion
