-- Steps of the search: what a look at a universal variable's values tells.
use Rattle.std.specs.Prelude.{ℕ, List, []}
use Rattle.qm_model.specs.declared.range.Range.{Range}
use Rattle.qm_model.specs.declared.variable.Var.{Var}
use Rattle.qm_model.specs.declared.game.Problem.{Problem}
use Rattle.qm_model.specs.Ranges.{range_at}
use Rattle.qm_search.specs.declared.looks.FirstLook.{FirstLook}
use Rattle.qm_search.specs.declared.looks.FirstLook.TheVariants.{Begin, Closed}
use Rattle.qm_search.specs.declared.looks.Seen.{Seen}
use Rattle.qm_search.specs.declared.looks.Seen.TheVariants as seen
use Rattle.qm_search.specs.declared.window.Window.{Window}
use Rattle.qm_search.specs.JudgeSteps.{IsKnownPoint}
use Rattle.qm_search.specs.OutcomeSteps.{IsOutcome}
use Rattle.qm_search.specs.PartSteps.{IsStart}

-- where a value ends the visit, its outcome; where a best point is told, it is one of some box
abbrev pub IsSeen : Problem → List Var → ℕ → List Range → Window → Seen → Type 0
IsSeen P rest depth bx W (seen.Closed outcome) = IsOutcome P [] [] rest depth bx W outcome
IsSeen P rest depth bx W (seen.Bound bound best) = IsKnownPoint P best
IsSeen P rest depth bx W seen.Nothing = Unit {0}

-- the outcome of the visit, or a value with which to begin, and perhaps a best point
abbrev pub IsFirstLook : Problem → List Var → ℕ → List Range → Window → FirstLook → Type 0
IsFirstLook P rest depth bx W (Closed value outcome) = IsOutcome P [] [] rest depth bx W outcome
IsFirstLook P rest depth bx W (Begin lowest) = IsStart (range_at bx depth) lowest.value × IsKnownPoint P lowest.point
