-- The rows that the closing combination of a tableau names are there.
use Rattle.std.proofs.Common.{◌≡◌, refl, sym, subst, ℕ, zero, suc, ◌+◌, ◌<◌, ◌≤◌, Bool, true, false, List, [], ◌∷◌, length, arith, All, pos, if◌then◌else◌}
use Rattle.std.specs.Prelude.{IsSome}
use Rattle.std.specs.Ordering.{int_eq}
use Rattle.std.proofs.lemmas.List.Elements.{All-append, All-cons, All-nil}
use Rattle.qm_math.specs.Fraction.{Fraction}
use Rattle.qm_model.specs.declared.range.Range.{Range}
use Rattle.qm_model.specs.declared.row.Row.{Row}
use Rattle.qm_model.specs.declared.row_id.RowId.{RowId}
use Rattle.qm_model.specs.declared.game.Problem.{Problem}
use Rattle.qm_tableau.specs.Tables.{Table}
use Rattle.qm_trees.specs.declared.combination.Entry.{Entry}
use Rattle.qm_trees.specs.Entries.{row_named}
use Rattle.qm_trees.specs.RefuteRight.{AreNamed}
use Rattle.qm_simplex.specs.Multipliers.{closing_entries, entries_below, entry_for, multiplier, slack_name, slack_rows, slacks_start}
use Rattle.qm_simplex.proofs.SlackRows.{slack_row}

module _ (P : Problem) (cuts : List Row) where
  abbrev IsThere : Entry → Type 0
  IsThere e = IsSome (row_named P cuts e.row)

  named_entry : (row : RowId) (by : Fraction) → IsSome (row_named P cuts row) → All IsThere (entry_for row by)
  named_entry row by there = by_test (int_eq by.num (pos 0))
    where
      by_test : (none : Bool) → All IsThere (let es : List Entry = if none then [] else record { row = row; by = by } ∷ [] in es)
      by_test true = All-nil IsThere
      by_test false = All-cons IsThere (record { row = row; by = by }) [] there (All-nil IsThere)

  abbrev name : ℕ → RowId
  name n = slack_name (length P.rows) (length P.urows) n

  slack_there : (n : ℕ) (rows : List Row) → rows ≡ slack_rows P cuts → n < length rows → IsSome (row_named P cuts (name n))
  slack_there n [] is h = absurd (omega (arith, h))
  slack_there n (row ∷ rows) is h =
      let inside : n < length (slack_rows P cuts) = subst (λ (rs : List Row). n < length rs) is h in
      subst IsSome (sym (slack_row P cuts n row inside)) refl

  entries_there : (by : ℕ → Fraction) (n : ℕ) → n ≤ length (slack_rows P cuts) → All IsThere (entries_below name by n)
  entries_there by zero h = All-nil IsThere
  entries_there by (suc n) h =
      All-append IsThere (entries_below name by n) (entry_for (name n) (by n)) (entries_there by n (omega (arith, h)))
      (named_entry (name n) (by n) (slack_there n (slack_rows P cuts) refl (omega (arith, h))))

pub closing_named : (P : Problem) (cuts : List Row) (bx : List Range) (t : Table) (r : ℕ) → AreNamed P cuts (closing_entries P cuts bx t r)
closing_named P cuts bx t r = entries_there P cuts (λ n. multiplier t r (slacks_start bx + n)) (length (slack_rows P cuts)) (omega arith)
