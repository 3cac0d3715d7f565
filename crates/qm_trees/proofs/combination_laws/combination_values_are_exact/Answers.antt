use Rattle.qm_trees.proofs.CombinationValues.{value-void, value-nothing, value-bound}
use Rattle.qm_trees.proofs.combination_laws.combination_values_are_exact.Goals as goal

pub returns : goal.returns
returns c = record { void = value-void; nothing = value-nothing; bound = value-bound }
