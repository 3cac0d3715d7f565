use Rattle.qm_trees.proofs.ClosedGoals.{closed_out_of_reach}
use Rattle.qm_trees.proofs.combination_laws.closed_goals_are_out_of_reach.Goals as goal

pub returns : goal.returns
returns c = closed_out_of_reach
