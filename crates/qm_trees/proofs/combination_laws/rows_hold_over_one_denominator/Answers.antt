use Rattle.qm_trees.proofs.RowsOver.{HoldsAt-over}
use Rattle.qm_trees.proofs.combination_laws.rows_hold_over_one_denominator.Goals as goal

pub returns : goal.returns
returns c = HoldsAt-over
