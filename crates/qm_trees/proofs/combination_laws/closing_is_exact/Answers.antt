use Rattle.qm_trees.proofs.CombinationCloses.{closing_exact}
use Rattle.qm_trees.proofs.combination_laws.closing_is_exact.Goals as goal

pub returns : goal.returns
returns c = closing_exact
