-- The tableaus of a run from a good one.
use Rattle.std.proofs.Common.{subst, List, [], ◌∷◌}
use Rattle.qm_model.specs.declared.range.Range.{Range}
use Rattle.qm_model.specs.declared.row.Row.{Row}
use Rattle.qm_model.specs.declared.game.Problem.{Problem}
use Rattle.qm_tableau.specs.Tables.{Table}
use Rattle.qm_tableau.specs.Good.{IsGood}
use Rattle.qm_tableau.proofs.PivotGood.{pivot_good}
use Rattle.qm_simplex.specs.Runs.{Leads, Pivot}

pub run_good : (P : Problem) (cuts : List Row) (bx : List Range) (t last : Table) (pivots : List Pivot) → IsGood P cuts bx t → Leads t pivots last → IsGood P cuts bx last
run_good P cuts bx t last [] good h = subst (IsGood P cuts bx) h good
run_good P cuts bx t last (p ∷ ps) good h = run_good P cuts bx h.1 last ps (pivot_good P cuts bx t h.1 p.0 p.1 good h.0 h.2) h.3
