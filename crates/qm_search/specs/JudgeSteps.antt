-- Steps of the search: what is told of a box before it is looked into.
use Rattle.std.specs.Prelude.{ℕ, ◌<◌, List, [], length, Any, Option, Some, None, IfSome}
use Rattle.qm_game.specs.Dead.{IsFirstDead}
use Rattle.qm_game.specs.Goals.{goal_of}
use Rattle.qm_model.specs.declared.range.Range.{Range}
use Rattle.qm_model.specs.declared.variable.Var.{Var}
use Rattle.qm_model.specs.declared.game.Problem.{Problem}
use Rattle.qm_model.specs.Boxes.{IsEmptyRange}
use Rattle.qm_model.specs.Goals.{Goal, IsProper, Reaches}
use Rattle.qm_relax.specs.Answers.{IsBestPoint}
use Rattle.qm_relax.specs.declared.answers.BestPoint.{BestPoint}
use Rattle.qm_simplex.specs.Relaxation.{IsInRelaxation}
use Rattle.qm_trees.specs.declared.refutation.Refute.{Refute}
use Rattle.qm_search.specs.declared.judge.Judged.{Judged}
use Rattle.qm_search.specs.declared.judge.Judged.TheVariants.{Known, Open}
use Rattle.qm_search.specs.declared.window.Window.{Window}
use Rattle.qm_search.specs.Entering.{IsUnclosed}
use Rattle.qm_search.specs.OutcomeSteps.{IsOutcome, Refutes}

-- no range is empty, and no row is dead
pub record IsClear (P : Problem) (bx : List Range) : Type 0 where
  pub full : Any IsEmptyRange bx → ⊥
  pub alive : IsFirstDead P bx None

-- a refutation of every goal; or the box is clear
abbrev pub IsClosing : Problem → List Range → Option Refute → Type 0
IsClosing P bx (Some tree) = (rest : List Var) (depth : ℕ) (G : Goal) → IsProper G → Refutes P [] [] rest depth bx G tree
IsClosing P bx None = IsClear P bx

-- where there is a bound, it reaches the goal, and nothing above it is reached
abbrev pub IsBound : Problem → List Range → Goal → Option BestPoint → Type 0
IsBound P bx G None = Unit {0}
IsBound P bx G (Some best) = Reaches best.value G × IsBestPoint P [] bx best

-- the box may be looked into: it is clear, some variable is still to be set, and its relaxation has a point or its run fails
pub record MayBeVisited (P : Problem) (rest : List Var) (bx : List Range) : Type 0 where
  pub some : 0 < length rest
  pub clear : IsClear P bx
  pub unclosed : IsUnclosed P bx

-- the outcome of the box for the window; or the box may be looked into, perhaps with a bound
abbrev pub IsJudged : Problem → List Var → ℕ → List Range → Window → Judged → Type 0
IsJudged P rest depth bx W (Known outcome) = IsOutcome P [] [] rest depth bx W outcome
IsJudged P rest depth bx W (Open bound) = MayBeVisited P rest bx × IsBound P bx (goal_of W.floor) bound

-- where a point is known, it lies in the relaxation of some box
abbrev pub IsKnownPoint : Problem → Option BestPoint → Type 0
IsKnownPoint P known = IfSome known (λ best. (bx : List Range) × IsInRelaxation P [] bx best.point)
