-- The program's goals among all goals.
use Rattle.qm_model.specs.Goals.{Goal as AnyGoal, Any, Above}
use Rattle.qm_game.specs.declared.goal.Goal.{Goal}
use Rattle.qm_game.specs.declared.goal.Goal.TheVariants as goal

abbrev pub goal_of : Goal → AnyGoal
goal_of goal.Any = Any
goal_of (goal.Above t) = Above t
