-- The combination that closes at the end of a run.
use Rattle.std.specs.Prelude.{ℕ, zero, suc, ◌+◌, ◌*◌, ◌-◌, nat_lt, pos, if◌then◌else◌, ◌==◌, Bool, List, [], ◌∷◌, ◌++◌, drop, length}
use Rattle.std.specs.Ordering.{int_eq}
use Rattle.qm_math.specs.Fraction.{Fraction, whole}
use Rattle.qm_math.specs.Arithmetic.{negated}
use Rattle.qm_model.specs.declared.range.Range.{Range}
use Rattle.qm_model.specs.declared.row.Row.{Row}
use Rattle.qm_model.specs.declared.row_id.RowId.{RowId}
use Rattle.qm_model.specs.declared.row_id.RowId.TheVariants as id
use Rattle.qm_model.specs.declared.game.Problem.{Problem}
use Rattle.qm_tableau.specs.Tables.{Table, row_at}
use Rattle.qm_trees.specs.declared.combination.Entry.{Entry}
use Rattle.qm_trees.specs.Entries.{Combination}

-- the number in the column of the quantity of row i, where `columns` says which row's each number's column is; 0 where
-- there is none
abbrev pub number_for : ℕ → List ℕ → List Fraction → Fraction
number_for i [] numbers = whole (pos 0)
number_for i (c ∷ columns) [] = whole (pos 0)
number_for i (c ∷ columns) (t ∷ numbers) = if c == i then t else number_for i columns numbers

-- what the quantity of row i is multiplied with, so that all together come to the constant of row r: 1 for row r itself,
-- and for each column's own quantity the number of row r there, with the sign turned
abbrev pub multiplier : Table → ℕ → ℕ → Fraction
multiplier t r i = if i == r then whole (pos 1) else negated (number_for i t.columns (drop 1 (row_at t.rows r)))

-- an entry, where the multiplier isn't 0
abbrev pub entry_for : RowId → Fraction → List Entry
entry_for row by = if int_eq by.num (pos 0) then [] else record { row = row; by = by } ∷ []

-- the entries of the slacks numbered below n
abbrev pub entries_below : (ℕ → RowId) → (ℕ → Fraction) → ℕ → List Entry
entries_below name by zero = []
entries_below name by (suc n) = entries_below name by n ++ entry_for (name n) (by n)

-- the rows that slacks belong to, in order
abbrev pub slack_rows : Problem → List Row → List Row
slack_rows P cuts = P.rows ++ (P.urows ++ cuts)

-- what the row of a slack is called: rows are counted first, then uncertainty rows, then cuts
abbrev pub slack_name : ℕ → ℕ → ℕ → RowId
slack_name rows urows n =
    if nat_lt n rows then id.Row n
    else (if nat_lt (n - rows) urows then id.Uncertain (n - rows) else id.Cut (n - rows - urows))

-- how many rows of a tableau come before the first slack: that of the objective, and two for each variable
abbrev pub slacks_start : List Range → ℕ
slacks_start bx = 1 + 2 * length bx

-- the entries of all slacks, with the multipliers of their quantities
abbrev pub closing_entries : Problem → List Row → List Range → Table → ℕ → List Entry
closing_entries P cuts bx t r =
    entries_below (slack_name (length P.rows) (length P.urows)) (λ n. multiplier t r (slacks_start bx + n)) (length (slack_rows P cuts))

-- what closes by row r, with the objective or without
abbrev pub closing_combination : Problem → List Row → List Range → Table → Bool → ℕ → Combination
closing_combination P cuts bx t objective r = record { objective = objective; entries = closing_entries P cuts bx t r }
