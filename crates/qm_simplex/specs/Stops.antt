-- Where a run stops, and what is answered there.
use Rattle.std.specs.Prelude.{◌≡◌, ℕ, suc, ◌+◌, ◌*◌, true, false, List, [], ◌∷◌, ◌++◌, length, Option, Some, None, Result, Ok, Err}
use Rattle.qm_math.specs.Fraction.{Fraction, whole}
use Rattle.qm_frac.specs.Checked.{Checked, added, divided}
use Rattle.qm_frac.specs.declared.leaves.Leaves.{Leaves}
use Rattle.qm_model.specs.declared.range.Range.{Range}
use Rattle.qm_model.specs.declared.row.Row.{Row}
use Rattle.qm_model.specs.declared.game.Problem.{Problem}
use Rattle.qm_tableau.specs.declared.choice.Choice.{Choice}
use Rattle.qm_tableau.specs.declared.choice.Choice.TheVariants as choice
use Rattle.qm_tableau.specs.Tables.{Table, entry_at}
use Rattle.qm_tableau.specs.Leaving.{Placed}
use Rattle.qm_tableau.specs.FirstTable.{first_table}
use Rattle.qm_tableau.specs.Rule.{chosen}
use Rattle.qm_tableau.specs.Pivoting.{pivoted}
use Rattle.qm_simplex.specs.declared.answers.LeavePlace.{LeavePlace}
use Rattle.qm_simplex.specs.declared.answers.LeavePlace.TheVariants as place
use Rattle.qm_simplex.specs.declared.answers.LpEnd.{LpEnd}
use Rattle.qm_simplex.specs.declared.answers.LpEnd.TheVariants.{Best, Void}
use Rattle.qm_simplex.specs.declared.answers.LpFault.{LpFault}
use Rattle.qm_simplex.specs.declared.answers.LpFault.TheVariants as fault
use Rattle.qm_simplex.specs.declared.answers.RunLeaves.{RunLeaves}
use Rattle.qm_simplex.specs.Runs.{Pivot, Leads}
use Rattle.qm_simplex.specs.Multipliers.{closing_combination}

-- a value, or the first operation on the way to it that leaves, and where it belongs
abbrev pub Located : Type 0 → Type 0
Located A = Result A (LeavePlace × Leaves)

abbrev pub located : {A : Type 0} → LeavePlace → Checked A → Located A
located at (Ok x) = Ok x
located at (Err leaves) = Err (at, leaves)

abbrev pub then_at : {A B : Type 0} → Located A → (A → Located B) → Located B
then_at (Ok x) f = f x
then_at (Err left) f = Err left

-- the value: the constant of the objective's row over the scale
abbrev pub value_at : Problem → List (List Fraction) → Located Fraction
value_at P rows = located place.Value (divided (entry_at rows 0 0) (whole P.scale))

-- the point, for the variables from `var` on: from the low end on, the constant of the row of x - low
abbrev pub point_at : List (List Fraction) → ℕ → List Range → Located (List Fraction)
point_at rows var [] = Ok []
point_at rows var (r ∷ bx) =
    then_at (located (place.Point (suc var)) (added (whole r.low) (entry_at rows (2 * var + 2) 0))) (λ x.
    then_at (point_at rows (suc var) bx) (λ xs. Ok (x ∷ xs)))

-- the end where no row is left: first the value, then the point, variable by variable
abbrev pub best_at : Problem → List Row → List Range → ℕ → Table → Located LpEnd
best_at P cuts bx pivots t =
    then_at (value_at P t.rows) (λ value. then_at (point_at t.rows 0 bx) (λ point.
    Ok (Best point value (closing_combination P cuts bx t true 0) pivots)))

-- the end where row r can't be raised to 0
abbrev pub void_at : Problem → List Row → List Range → ℕ → Table → ℕ → LpEnd
void_at P cuts bx pivots t r = Void (closing_combination P cuts bx t false r) pivots

-- what a run answers: its end, or the first operation that leaves, with the pivots up to there
abbrev pub Answer : Type 0
Answer = Result LpEnd RunLeaves

abbrev pub after_pivots : List Pivot → Located LpEnd → Answer
after_pivots ps (Ok end) = Ok end
after_pivots ps (Err left) = Err (record { pivots = ps; at = left.0; leaves = left.1 })

-- the answer where a pivot leaves, which is the last one in the list
abbrev pub after_pivot : List Pivot → Pivot → Placed Table → Option Answer
after_pivot ps p (Ok u) = None
after_pivot ps p (Err l) = Some (after_pivots (ps ++ p ∷ []) (Err (place.Entry l.row l.col, l.leaves)))

-- the answer by what the rule names
abbrev pub after_choice : Problem → List Row → List Range → List Pivot → Table → Placed Choice → Option Answer
after_choice P cuts bx ps t (Err l) = Some (after_pivots ps (Err (place.Quotient l.row l.col, l.leaves)))
after_choice P cuts bx ps t (Ok choice.Done) = Some (after_pivots ps (best_at P cuts bx (length ps) t))
after_choice P cuts bx ps t (Ok (choice.VoidRow r)) = Some (Ok (void_at P cuts bx (length ps) t r))
after_choice P cuts bx ps t (Ok (choice.Pivot r c)) = after_pivot ps (r, c) (pivoted t r c)

-- The answer at a tableau, after these pivots. There is none where the rule names a pivot that doesn't leave: there the
-- run goes on.
abbrev pub stop_at : Problem → List Row → List Range → List Pivot → Table → Option Answer
stop_at P cuts bx ps t = after_choice P cuts bx ps t (chosen t)

-- The run from tableau t has this answer: pivots of the rule lead to a tableau where it stops with it.
pub record IsRunFrom (P : Problem) (cuts : List Row) (bx : List Range) (t : Table) (answer : Answer) : Type 0 where
  pub pivots : List Pivot
  pub last : Table
  pub leads : Leads t pivots last
  pub stops : stop_at P cuts bx pivots last ≡ Some answer

-- the run of a game, cuts and a box
abbrev pub IsRun : Problem → List Row → List Range → Answer → Type 0
IsRun P cuts bx answer = IsRunFrom P cuts bx (first_table P cuts bx) answer

-- memory is wanting, or this is the run
abbrev pub AnswersRun : Problem → List Row → List Range → Result LpEnd LpFault → Type 0
AnswersRun P cuts bx (Ok end) = IsRun P cuts bx (Ok end)
AnswersRun P cuts bx (Err (fault.Leaves leaves)) = IsRun P cuts bx (Err leaves)
AnswersRun P cuts bx (Err fault.Memory) = Unit {0}
