use Rattle.std.proofs.Common.{All, take}
use Rattle.qm_frac.specs.Lowest.{IsFrac}
use Rattle.qm_trees.proofs.values.values_are_fractions.Given as goal

abbrev pub invariant-loop-value : goal.invariant-loop-value
invariant-loop-value l = All IsFrac (take l.value-index l.values)
