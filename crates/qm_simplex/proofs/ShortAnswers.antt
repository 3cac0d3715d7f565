-- How many pivots the answer of a run has: those that led to the tableau where it stops, and the one that leaves.
use Rattle.std.proofs.Common.{◌≡◌, refl, subst, suc, ◌<◌, ◌≤◌, List, [], ◌∷◌, length, length-append, arith, Option, Some, None, Ok, Err, true}
use Rattle.qm_math.specs.Fraction.{Fraction}
use Rattle.qm_model.specs.declared.range.Range.{Range}
use Rattle.qm_model.specs.declared.row.Row.{Row}
use Rattle.qm_model.specs.declared.game.Problem.{Problem}
use Rattle.qm_tableau.specs.declared.choice.Choice.{Choice}
use Rattle.qm_tableau.specs.declared.choice.Choice.TheVariants as choice
use Rattle.qm_tableau.specs.Tables.{Table}
use Rattle.qm_tableau.specs.Leaving.{Placed}
use Rattle.qm_tableau.specs.Good.{IsGood}
use Rattle.qm_tableau.specs.Pivoting.{pivoted}
use Rattle.qm_tableau.specs.Rule.{chosen}
use Rattle.qm_trees.specs.Entries.{Combination}
use Rattle.qm_simplex.specs.declared.answers.LpEnd.TheVariants.{Best}
use Rattle.qm_simplex.specs.Ends.{IsShort, most_pivots, pivots_of}
use Rattle.qm_simplex.specs.Multipliers.{closing_combination}
use Rattle.qm_simplex.specs.Runs.{Pivot}
use Rattle.qm_simplex.specs.Stops.{Answer, IsRunFrom, Located, after_choice, after_pivot, after_pivots, point_at, then_at, value_at}
use Rattle.qm_simplex.proofs.ShortRuns.{few_pivots}

-- an end has all pivots, and where an operation leaves there is at most one more
abbrev Counts : List Pivot → Answer → Type 0
Counts ps (Ok end) = pivots_of end ≡ length ps
Counts ps (Err leaves) = length leaves.pivots ≤ suc (length ps)

-- the same of an answer, where there is one
abbrev CountsAt : List Pivot → Option Answer → Type 0
CountsAt ps None = Unit {0}
CountsAt ps (Some answer) = Counts ps answer

best_counts : (ps : List Pivot) (value : Located Fraction) (point : Located (List Fraction)) (combo : Combination)
    → Counts ps (after_pivots ps (then_at value (λ v. then_at point (λ xs. Ok (Best xs v combo (length ps))))))
best_counts ps (Err left) point combo = omega arith
best_counts ps (Ok v) (Err left) combo = omega arith
best_counts ps (Ok v) (Ok xs) combo = refl

pivot_counts : (ps : List Pivot) (p : Pivot) (x : Placed Table) → CountsAt ps (after_pivot ps p x)
pivot_counts ps p (Ok u) = tt
pivot_counts ps p (Err l) = let long = length-append ps (p ∷ []) in omega (arith, long)

choice_counts : (P : Problem) (cuts : List Row) (bx : List Range) (ps : List Pivot) (t : Table) (x : Placed Choice) → CountsAt ps (after_choice P cuts bx ps t x)
choice_counts P cuts bx ps t (Err l) = omega arith
choice_counts P cuts bx ps t (Ok choice.Done) = best_counts ps (value_at P t.rows) (point_at t.rows 0 bx) (closing_combination P cuts bx t true 0)
choice_counts P cuts bx ps t (Ok (choice.VoidRow r)) = refl
choice_counts P cuts bx ps t (Ok (choice.Pivot r c)) = pivot_counts ps (r, c) (pivoted t r c)

short_by : (P : Problem) (cuts : List Row) (bx : List Range) (ps : List Pivot) (answer : Answer) → length ps < most_pivots P cuts bx → Counts ps answer → IsShort P cuts bx answer
short_by P cuts bx ps (Ok end) few count = omega (arith, few, count)
short_by P cuts bx ps (Err leaves) few count = omega (arith, few, count)

pub short_answer : (P : Problem) (cuts : List Row) (bx : List Range) (t : Table) (answer : Answer) → IsGood P cuts bx t → IsRunFrom P cuts bx t answer → IsShort P cuts bx answer
short_answer P cuts bx t answer good run =
    short_by P cuts bx run.pivots answer (few_pivots P cuts bx t run.last run.pivots good run.leads)
    (subst (CountsAt run.pivots) run.stops (choice_counts P cuts bx run.pivots run.last (chosen run.last)))
