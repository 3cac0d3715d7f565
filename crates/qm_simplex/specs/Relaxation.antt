-- The linear relaxation of a box: whole variables may take any value between the ends of their ranges.
use Rattle.std.specs.Prelude.{List, All}
use Rattle.qm_math.specs.Fraction.{Fraction}
use Rattle.qm_model.specs.declared.range.Range.{Range}
use Rattle.qm_model.specs.declared.row.Row.{Row}
use Rattle.qm_model.specs.declared.game.Problem.{Problem}
use Rattle.qm_trees.specs.BoxPoints.{IsInBox, HoldsAt}

-- a point of the box that meets the rows, the uncertainty rows and the cuts
pub record IsInRelaxation (P : Problem) (cuts : List Row) (bx : List Range) (point : List Fraction) : Type 0 where
  pub inside : IsInBox bx point
  pub rows : All (HoldsAt point) P.rows
  pub urows : All (HoldsAt point) P.urows
  pub extra : All (HoldsAt point) cuts
