-- What the end of a run from a good tableau means.
use Rattle.std.proofs.Common.{◌≡◌, refl, subst, sym, ◌<◌, List, length, Ok, Err}
use Rattle.std.specs.Prelude.{Any, IfOk, Some, Result}
use Rattle.qm_model.specs.declared.range.Range.{Range}
use Rattle.qm_model.specs.declared.row.Row.{Row}
use Rattle.qm_model.specs.declared.game.Problem.{Problem}
use Rattle.qm_model.specs.Boxes.{IsEmptyRange}
use Rattle.qm_model.specs.Sound.{IsSound}
use Rattle.qm_tableau.specs.declared.choice.Choice.{Choice}
use Rattle.qm_tableau.specs.declared.choice.Choice.TheVariants as choice
use Rattle.qm_tableau.specs.FirstTable.{first_table}
use Rattle.qm_tableau.specs.Good.{IsGood}
use Rattle.qm_tableau.specs.Leaving.{Placed}
use Rattle.qm_tableau.specs.Pivoting.{pivoted}
use Rattle.qm_tableau.specs.Rule.{chosen}
use Rattle.qm_tableau.specs.Tables.{Table}
use Rattle.qm_tableau.proofs.FirstGood.{first_good}
use Rattle.qm_simplex.specs.declared.answers.LpEnd.{LpEnd}
use Rattle.qm_simplex.specs.declared.answers.LpRun.{LpRun}
use Rattle.qm_simplex.specs.declared.answers.LpFault.{LpFault}
use Rattle.qm_simplex.specs.declared.answers.LpFault.TheVariants as fault
use Rattle.qm_simplex.specs.declared.run.Finished.{Finished}
use Rattle.qm_simplex.specs.Ends.{IsRightEnd, most_pivots, pivots_of}
use Rattle.qm_simplex.specs.Runs.{Leads, Pivot}
use Rattle.qm_simplex.specs.Listed.{IsRunBy, ListsRun}
use Rattle.qm_simplex.specs.RunSteps.{RunsTo, Tells}
use Rattle.qm_simplex.specs.Stops.{Answer, IsRun, IsRunFrom, Located, after_choice, after_pivot, after_pivots, best_at, stop_at, void_at}
use Rattle.qm_simplex.proofs.Endings.{best_end, void_end}
use Rattle.qm_simplex.proofs.GoodRuns.{run_good}
use Rattle.qm_simplex.proofs.ShortAnswers.{short_answer}

-- only an end is answered as one
end_alone : (ps : List Pivot) (x : Located LpEnd) (end : LpEnd) → after_pivots ps x ≡ Ok end → x ≡ Ok end
end_alone ps (Ok e) end h = cc
end_alone ps (Err left) end h = absurd (cc)

one_answer : (x y : Answer) → Some x ≡ Some y → x ≡ y
one_answer x y h = cc

module _ (P : Problem) (cuts : List Row) (bx : List Range) (sound : IsSound P) (full : Any IsEmptyRange bx → ⊥) where
  -- where it stops
  right_stop : (t : Table) (ps : List Pivot) (end : LpEnd) (named : Placed Choice) → IsGood P cuts bx t → chosen t ≡ named
      → after_choice P cuts bx ps t named ≡ Some (Ok end) → IsRightEnd P cuts bx end
  right_stop t ps end (Err l) good is h = absurd (cc)
  right_stop t ps end (Ok choice.Done) good is h =
      let told = one_answer (after_pivots ps (best_at P cuts bx (length ps) t)) (Ok end) h in
      best_end P cuts bx t (length ps) end sound full good is (end_alone ps (best_at P cuts bx (length ps) t) end told)
  right_stop t ps end (Ok (choice.VoidRow r)) good is h =
      let told = one_answer (Ok (void_at P cuts bx (length ps) t r)) (Ok end) h in
      let same : void_at P cuts bx (length ps) t r ≡ end = cc in
      subst (IsRightEnd P cuts bx) same (void_end P cuts bx t r full good is)
  right_stop t ps end (Ok (choice.Pivot r c)) good is h = by_pivot (pivoted t r c) h
    where
      by_pivot : (x : Placed Table) → after_pivot ps (r, c) x ≡ Some (Ok end) → IsRightEnd P cuts bx end
      by_pivot (Ok u) g = absurd (cc)
      by_pivot (Err l) g = absurd (cc)

  right_run : (t : Table) (end : LpEnd) → IsGood P cuts bx t → IsRunFrom P cuts bx t (Ok end) → IsRightEnd P cuts bx end
  right_run t end good run =
      right_stop run.last run.pivots end (chosen run.last) (run_good P cuts bx t run.last run.pivots good run.leads) refl run.stops

pub right_end : (P : Problem) (cuts : List Row) (bx : List Range) (t : Table) (end : LpEnd) → IsSound P
    → (Any IsEmptyRange bx → ⊥) → IsGood P cuts bx t → IsRunFrom P cuts bx t (Ok end) → IsRightEnd P cuts bx end
right_end P cuts bx t end sound full good run = right_run P cuts bx sound full t end good run

-- ---- the run of the program's call

-- what is told where the first tableau's pivots have led
pub run_told : (P : Problem) (cuts : List Row) (bx : List Range) (last : Table) (ps : List Pivot) (r : Result LpRun LpFault) → Leads (first_table P cuts bx) ps last
    → Tells ps (stop_at P cuts bx ps last) r → ListsRun P cuts bx r
run_told P cuts bx last ps (Ok run) leads told =
    subst (λ qs. IsRunBy P cuts bx qs (Ok run.end)) (sym told.0) (record { last = last; leads = leads; stops = told.1 })
run_told P cuts bx last ps (Err (fault.Leaves leaves)) leads told = record { pivots = ps; last = last; leads = leads; stops = told }
run_told P cuts bx last ps (Err fault.Memory) leads told = tt

-- a listed run is a run
pub run_of_listed : (P : Problem) (cuts : List Row) (bx : List Range) (pivots : List Pivot) (answer : Answer) → IsRunBy P cuts bx pivots answer → IsRun P cuts bx answer
run_of_listed P cuts bx pivots answer run = record { pivots = pivots; last = run.last; leads = run.leads; stops = run.stops }

-- the tableau behind the pivots is good
pub good_last : (P : Problem) (cuts : List Row) (bx : List Range) (last : Table) (run : Finished) → RunsTo (first_table P cuts bx) (Ok run) last → IsGood P cuts bx last
good_last P cuts bx last run h = run_good P cuts bx (first_table P cuts bx) last run.pivots (first_good P cuts bx) h.0

-- a run that leaves is told
pub leaving_told : (P : Problem) (cuts : List Row) (bx : List Range) (last : Table) (e : LpFault) → RunsTo (first_table P cuts bx) (Err e) last → ListsRun P cuts bx (Err e)
leaving_told P cuts bx last (fault.Leaves leaves) h = h P cuts bx
leaving_told P cuts bx last fault.Memory h = tt

pub right_told : (P : Problem) (cuts : List Row) (bx : List Range) (r : Result LpRun LpFault) → IsSound P
    → (Any IsEmptyRange bx → ⊥) → ListsRun P cuts bx r → IfOk r (λ run. IsRightEnd P cuts bx run.end)
right_told P cuts bx (Ok run) sound full told =
    right_run P cuts bx sound full (first_table P cuts bx) run.end (first_good P cuts bx) (run_of_listed P cuts bx run.pivots (Ok run.end) told)
right_told P cuts bx (Err e) sound full told = tt

pub short_told : (P : Problem) (cuts : List Row) (bx : List Range) (r : Result LpRun LpFault) → ListsRun P cuts bx r
    → IfOk r (λ run. pivots_of run.end < most_pivots P cuts bx)
short_told P cuts bx (Ok run) told =
    short_answer P cuts bx (first_table P cuts bx) (Ok run.end) (first_good P cuts bx) (run_of_listed P cuts bx run.pivots (Ok run.end) told)
short_told P cuts bx (Err e) told = tt
