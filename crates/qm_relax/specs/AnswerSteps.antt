-- What is told where a run ends, and what is owed of an answer with its point.
use Rattle.std.specs.Prelude.{◌↔◌, List, Any, Ok, if◌then◌else◌}
use Rattle.qm_model.specs.declared.range.Range.{Range}
use Rattle.qm_model.specs.declared.row.Row.{Row}
use Rattle.qm_model.specs.declared.game.Problem.{Problem}
use Rattle.qm_model.specs.Boxes.{IsEmptyRange}
use Rattle.qm_model.specs.Goals.{Goal}
use Rattle.qm_trees.specs.declared.combination.ComboValue.TheVariants.{Bound}
use Rattle.qm_trees.specs.Closing.{closes_goal}
use Rattle.qm_simplex.specs.declared.answers.LpEnd.{LpEnd}
use Rattle.qm_simplex.specs.declared.answers.LpEnd.TheVariants.{Best, Void}
use Rattle.qm_simplex.specs.Ends.{IsRightEnd}
use Rattle.qm_simplex.specs.Stops.{IsRun}
use Rattle.qm_relax.specs.declared.answers.RelaxedPoint.{RelaxedPoint}
use Rattle.qm_relax.specs.declared.answers.RelaxedPoint.TheVariants as pointed
use Rattle.qm_relax.specs.Answers.{HasNoBound, IfBound, IsBestPoint, IsRight, without_point}
use Rattle.qm_relax.specs.Failing.{Fails}

pub record IsOwed (P : Problem) (cuts : List Row) (bx : List Range) (G : Goal) (answer : RelaxedPoint) : Type 0 where
  pub right : IsRight P cuts bx G (without_point answer)
  pub exact : HasNoBound (without_point answer) ↔ Fails P cuts bx
  pub best : IfBound (IsBestPoint P cuts bx) answer

-- the run over a box without an empty range ends so
pub record EndsWith (P : Problem) (cuts : List Row) (bx : List Range) (end : LpEnd) : Type 0 where
  pub full : Any IsEmptyRange bx → ⊥
  pub run : IsRun P cuts bx (Ok end)
  pub right : IsRightEnd P cuts bx end

-- what the end tells, where its combination has a value
abbrev pub told : Goal → LpEnd → RelaxedPoint
told G (Best point value combo pivots) =
    if closes_goal G (Bound value) then pointed.Closed combo else pointed.Bound (record { value = value; point = point; combo = combo })
told G (Void combo pivots) = pointed.Closed combo
