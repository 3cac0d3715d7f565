-- The entries of the combination at the end of a run name rows that are there.
use Rattle.std.proofs.Common.{◌≡◌, refl, ℕ, zero, suc, ◌+◌, ◌<◌, ◌≤◌, Bool, true, false, List, [], ◌∷◌, length, arith, All, pos, Some, Ok, Err, if◌then◌else◌}
use Rattle.std.specs.Prelude.{IfOk, IsSome, Result}
use Rattle.std.specs.Ordering.{int_eq}
use Rattle.std.proofs.lemmas.List.Elements.{All-append, All-cons, All-nil}
use Rattle.qm_math.specs.Fraction.{Fraction}
use Rattle.qm_model.specs.declared.range.Range.{Range}
use Rattle.qm_model.specs.declared.row.Row.{Row}
use Rattle.qm_model.specs.declared.row_id.RowId.{RowId}
use Rattle.qm_model.specs.declared.game.Problem.{Problem}
use Rattle.qm_tableau.specs.declared.choice.Choice.{Choice}
use Rattle.qm_tableau.specs.declared.choice.Choice.TheVariants as choice
use Rattle.qm_tableau.specs.Leaving.{Placed}
use Rattle.qm_tableau.specs.Pivoting.{pivoted}
use Rattle.qm_tableau.specs.Rule.{chosen}
use Rattle.qm_tableau.specs.Tables.{Table}
use Rattle.qm_trees.specs.declared.combination.Entry.{Entry}
use Rattle.qm_trees.specs.Entries.{row_named}
use Rattle.qm_trees.specs.RefuteRight.{AreNamed}
use Rattle.qm_simplex.specs.declared.answers.LpEnd.{LpEnd}
use Rattle.qm_simplex.specs.declared.answers.LpEnd.TheVariants.{Best, Void}
use Rattle.qm_simplex.specs.declared.answers.LpFault.{LpFault}
use Rattle.qm_simplex.specs.declared.answers.LpRun.{LpRun}
use Rattle.qm_simplex.specs.Ends.{combination_of}
use Rattle.qm_simplex.specs.Listed.{ListsRun}
use Rattle.qm_simplex.specs.Multipliers.{closing_combination, closing_entries, entries_below, entry_for, multiplier, slack_name, slack_rows, slacks_start}
use Rattle.qm_simplex.specs.Runs.{Pivot}
use Rattle.qm_simplex.specs.Stops.{Located, after_choice, after_pivot, after_pivots, best_at, point_at, then_at, value_at, void_at}
use Rattle.qm_simplex.proofs.SlackRows.{slack_row}

module _ (P : Problem) (cuts : List Row) where
  abbrev IsNamed : Entry → Type 0
  IsNamed e = IsSome (row_named P cuts e.row)

  entry_named : (row : RowId) (by : Fraction) → IsSome (row_named P cuts row) → All IsNamed (entry_for row by)
  entry_named row by there = test (int_eq by.num (pos 0))
    where
      test : (b : Bool) → All IsNamed (if b then [] else record { row = row; by = by } ∷ [])
      test true = All-nil IsNamed
      test false = All-cons IsNamed (record { row = row; by = by }) [] there (All-nil IsNamed)

  abbrev name : ℕ → RowId
  name n = slack_name (length P.rows) (length P.urows) n

  name_there : (d : Row) (n : ℕ) → n < length (slack_rows P cuts) → IsSome (row_named P cuts (name n))
  name_there d n h = rw (slack_row P cuts n d h) refl

  below_named : (d : Row) (by : ℕ → Fraction) (n : ℕ) → n ≤ length (slack_rows P cuts) → All IsNamed (entries_below (slack_name (length P.rows) (length P.urows)) by n)
  below_named d by zero h = All-nil IsNamed
  below_named d by (suc n) h =
      All-append IsNamed (entries_below (slack_name (length P.rows) (length P.urows)) by n) (entry_for (name n) (by n)) (below_named d by n (omega (arith, h)))
      (entry_named (name n) (by n) (name_there d n (omega (arith, h))))

  closing_named : (bx : List Range) (t : Table) (r : ℕ) → AreNamed P cuts (closing_entries P cuts bx t r)
  closing_named bx t r =
      below_named (record { terms = []; right = pos 0 }) (λ n. multiplier t r (slacks_start bx + n)) (length (slack_rows P cuts)) (omega arith)

  abbrev NamesRows : LpEnd → Type 0
  NamesRows end = AreNamed P cuts (combination_of end).entries

  -- ---- at the end of a run
  best_named : (bx : List Range) (pivots : ℕ) (t : Table) (v : Located Fraction) (p : Located (List Fraction)) (end : LpEnd)
      → then_at v (λ value. then_at p (λ point. Ok (Best point value (closing_combination P cuts bx t true 0) pivots))) ≡ Ok end → NamesRows end
  best_named bx pivots t (Ok value) (Ok point) end h = let same : Best point value (closing_combination P cuts bx t true 0) pivots ≡ end = cc in rw (← same) (closing_named bx t 0)
  best_named bx pivots t (Ok value) (Err left) end h = absurd (cc)
  best_named bx pivots t (Err left) p end h = absurd (cc)

  located_end : (ps : List Pivot) (x : Located LpEnd) (end : LpEnd) → Some (after_pivots ps x) ≡ Some (Ok end) → x ≡ Ok end
  located_end ps (Ok e) end h = cc
  located_end ps (Err left) end h = absurd (cc)

  stop_named : (bx : List Range) (t : Table) (ps : List Pivot) (end : LpEnd) (named : Placed Choice) → after_choice P cuts bx ps t named ≡ Some (Ok end) → NamesRows end
  stop_named bx t ps end (Err l) h = absurd (cc)
  stop_named bx t ps end (Ok choice.Done) h =
      best_named bx (length ps) t (value_at P t.rows) (point_at t.rows 0 bx) end (located_end ps (best_at P cuts bx (length ps) t) end h)
  stop_named bx t ps end (Ok (choice.VoidRow r)) h = let same : void_at P cuts bx (length ps) t r ≡ end = cc in rw (← same) (closing_named bx t r)
  stop_named bx t ps end (Ok (choice.Pivot r c)) h = by_pivot (pivoted t r c) h
    where
      by_pivot : (x : Placed Table) → after_pivot ps (r, c) x ≡ Some (Ok end) → NamesRows end
      by_pivot (Ok u) g = absurd (cc)
      by_pivot (Err l) g = absurd (cc)

  pub named_told : (bx : List Range) (r : Result LpRun LpFault) → ListsRun P cuts bx r → IfOk r (λ run. NamesRows run.end)
  named_told bx (Ok run) told = stop_named bx told.last run.pivots run.end (chosen told.last) told.stops
  named_told bx (Err e) told = tt
