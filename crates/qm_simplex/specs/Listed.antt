-- Runs whose pivots are listed.
use Rattle.std.specs.Prelude.{◌≡◌, List, Some, Result, Ok, Err}
use Rattle.qm_model.specs.declared.range.Range.{Range}
use Rattle.qm_model.specs.declared.row.Row.{Row}
use Rattle.qm_model.specs.declared.game.Problem.{Problem}
use Rattle.qm_tableau.specs.Tables.{Table}
use Rattle.qm_tableau.specs.FirstTable.{first_table}
use Rattle.qm_simplex.specs.declared.answers.LpFault.{LpFault}
use Rattle.qm_simplex.specs.declared.answers.LpFault.TheVariants as fault
use Rattle.qm_simplex.specs.declared.answers.LpRun.{LpRun}
use Rattle.qm_simplex.specs.Runs.{Pivot, Leads}
use Rattle.qm_simplex.specs.Stops.{Answer, IsRun, stop_at}

-- the run of a game, cuts and a box has this answer behind these pivots
pub record IsRunBy (P : Problem) (cuts : List Row) (bx : List Range) (pivots : List Pivot) (answer : Answer) : Type 0 where
  pub last : Table
  pub leads : Leads (first_table P cuts bx) pivots last
  pub stops : stop_at P cuts bx pivots last ≡ Some answer

-- memory is wanting, or this is the run, with its pivots
abbrev pub ListsRun : Problem → List Row → List Range → Result LpRun LpFault → Type 0
ListsRun P cuts bx (Ok run) = IsRunBy P cuts bx run.pivots (Ok run.end)
ListsRun P cuts bx (Err (fault.Leaves leaves)) = IsRun P cuts bx (Err leaves)
ListsRun P cuts bx (Err fault.Memory) = Unit {0}
