-- Cuts: rows that hold wherever the rows of the problem do.
use Rattle.std.specs.Prelude.{ℤ, List, All}
use Rattle.qm_model.specs.declared.row.Row.{Row}
use Rattle.qm_model.specs.declared.game.Problem.{Problem}
use Rattle.qm_model.specs.Legal.{IsComplete, IsLegal, IsPrefix}
use Rattle.qm_model.specs.Points.{HoldsOver, Meets, Point, values_over}

-- each cut holds at each complete legal prefix within bounds and each point that meet the rows
abbrev pub HoldCuts : Problem → List Row → Type 0
HoldCuts P cuts = (prefix : List ℤ) (y : Point) → IsPrefix P prefix → IsComplete P prefix → IsLegal P prefix → Meets P prefix y → All (HoldsOver y.den (values_over prefix y)) cuts
