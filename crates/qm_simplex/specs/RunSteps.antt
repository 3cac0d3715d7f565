-- What the steps of a run answer.
use Rattle.std.specs.Prelude.{◌≡◌, List, [], ◌∷◌, ◌++◌, Option, Some, None, Result, Ok, Err}
use Rattle.qm_model.specs.declared.range.Range.{Range}
use Rattle.qm_model.specs.declared.row.Row.{Row}
use Rattle.qm_model.specs.declared.game.Problem.{Problem}
use Rattle.qm_tableau.specs.declared.choice.Choice.{Choice}
use Rattle.qm_tableau.specs.declared.choice.Choice.TheVariants as choice
use Rattle.qm_tableau.specs.Tables.{Table}
use Rattle.qm_tableau.specs.Rule.{chosen}
use Rattle.qm_tableau.specs.Pivoting.{pivoted}
use Rattle.qm_simplex.specs.declared.answers.LpRun.{LpRun}
use Rattle.qm_simplex.specs.declared.answers.LpFault.{LpFault}
use Rattle.qm_simplex.specs.declared.answers.LpFault.TheVariants as fault
use Rattle.qm_simplex.specs.declared.stuck.Stuck.{Stuck}
use Rattle.qm_simplex.specs.declared.stuck.Stuck.TheVariants as stuck
use Rattle.qm_simplex.specs.declared.run.Ending.{Ending}
use Rattle.qm_simplex.specs.declared.run.Ending.TheVariants as ending
use Rattle.qm_simplex.specs.declared.run.Finished.{Finished}
use Rattle.qm_simplex.specs.Runs.{Pivot, Leads}
use Rattle.qm_simplex.specs.Stops.{Answer, IsRunFrom, Located, after_pivots, stop_at}

-- memory is wanting, or the answer is this
abbrev pub Gives : {A : Type 0} → Located A → Result A Stuck → Type 0
Gives expected (Ok x) = expected ≡ Ok x
Gives expected (Err (stuck.Leaves at leaves)) = expected ≡ Err (at, leaves)
Gives expected (Err stuck.Memory) = Unit {0}

-- what the rule names where a run ends so
abbrev pub choice_at_end : Ending → Choice
choice_at_end ending.Best = choice.Done
choice_at_end (ending.Void r) = choice.VoidRow r

-- One step from a tableau and the pivots so far to the next: the rule's pivot; or nothing changes, since the run ends
-- or leaves here. Where it leaves, the list is the one that is answered.
abbrev pub IsStep : Table → List Pivot → Result (Option Ending) Stuck → Table → List Pivot → Type 0
IsStep t ps (Ok None) u qs = (p : Pivot) × (chosen t ≡ Ok (choice.Pivot p.0 p.1)) × (pivoted t p.0 p.1 ≡ Ok u) × (qs ≡ ps ++ p ∷ [])
IsStep t ps (Ok (Some end)) u qs = (chosen t ≡ Ok (choice_at_end end)) × (u ≡ t) × (qs ≡ ps)
IsStep t ps (Err (stuck.Leaves at leaves)) u qs =
    (P : Problem) (cuts : List Row) (bx : List Range) → stop_at P cuts bx ps t ≡ Some (after_pivots qs (Err (at, leaves)))
IsStep t ps (Err stuck.Memory) u qs = Unit {0}

-- the run from t has come to its end at u, or it leaves, or memory is wanting
abbrev pub RunsTo : Table → Result Finished LpFault → Table → Type 0
RunsTo t (Ok run) u = Leads t run.pivots u × (chosen u ≡ Ok (choice_at_end run.ending))
RunsTo t (Err (fault.Leaves leaves)) u = (P : Problem) (cuts : List Row) (bx : List Range) → IsRunFrom P cuts bx t (Err leaves)
RunsTo t (Err fault.Memory) u = Unit {0}

-- memory is wanting, or the answer is this, behind these pivots
abbrev pub Tells : List Pivot → Option Answer → Result LpRun LpFault → Type 0
Tells pivots expected (Ok run) = (run.pivots ≡ pivots) × (expected ≡ Some (Ok run.end))
Tells pivots expected (Err (fault.Leaves leaves)) = expected ≡ Some (Err leaves)
Tells pivots expected (Err fault.Memory) = Unit {0}
