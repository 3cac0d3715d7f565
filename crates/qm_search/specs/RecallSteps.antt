-- Steps of the search: what a remembered policy secures in a box.
use Rattle.std.specs.Prelude.{ℕ, List}
use Rattle.qm_math.specs.Fraction.{Fraction, HasPositiveDen}
use Rattle.qm_game.specs.declared.goal.Goal.TheVariants as goal
use Rattle.qm_game.specs.Goals.{goal_of}
use Rattle.qm_model.specs.declared.range.Range.{Range}
use Rattle.qm_model.specs.declared.variable.Var.{Var}
use Rattle.qm_model.specs.declared.game.Problem.{Problem}
use Rattle.qm_model.specs.Goals.{Reaches}
use Rattle.qm_search.specs.declared.recalled.Recalled.{Recalled}
use Rattle.qm_search.specs.declared.window.Window.{Window}
use Rattle.qm_search.specs.OutcomeSteps.{Secures}

-- the policy secures the value in the box, which reaches the floor
pub record IsRecalled (P : Problem) (rest : List Var) (depth : ℕ) (bx : List Range) (W : Window) (recalled : Recalled) : Type 0 where
  pub positive : HasPositiveDen recalled.value
  pub secures : Secures P rest depth bx recalled.value recalled.policy
  pub reaches : Reaches recalled.value (goal_of W.floor)

-- the part of the window above the value
abbrev pub window_above : Fraction → Window → Window
window_above value W = record { floor = goal.Above value; cap = W.cap }
