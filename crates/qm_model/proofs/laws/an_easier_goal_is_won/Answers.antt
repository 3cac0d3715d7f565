use Rattle.qm_model.proofs.GoalOrder.{wins_easier}
use Rattle.qm_model.proofs.laws.an_easier_goal_is_won.Goals as goal

pub returns : goal.returns
returns c = wins_easier
