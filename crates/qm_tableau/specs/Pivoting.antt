-- A pivot, operation by operation: row by row from row 0, in each row its factor first and then column by column.
use Rattle.std.specs.Prelude.{ℕ, suc, ◌-◌, List, [], ◌∷◌, Ok, if◌then◌else◌, ◌==◌, slice_set}
use Rattle.qm_math.specs.Fraction.{Fraction}
use Rattle.qm_frac.specs.Checked.{Checked, and_then, divided, multiplied, subtracted}
use Rattle.qm_tableau.specs.Tables.{Table, entry_of, row_at}
use Rattle.qm_tableau.specs.Leaving.{Placed, placed, next}

-- from an entry, the factor times the leaving row's entry is taken away
abbrev pub less_multiple : Fraction → Fraction → Fraction → Checked Fraction
less_multiple t factor other = and_then (multiplied factor other) (λ product. subtracted t product)

-- the same in row i and column k; the entering column c gets the factor itself
abbrev pub new_entry : ℕ → ℕ → Fraction → ℕ → Fraction → Fraction → Placed Fraction
new_entry i c factor k t other = if k == c then Ok factor else placed i k (less_multiple t factor other)

-- a row from column k on, with the leaving row beside it
abbrev pub new_entries : ℕ → ℕ → Fraction → ℕ → List Fraction → List Fraction → Placed (List Fraction)
new_entries i c factor k [] others = Ok []
new_entries i c factor k (t ∷ ts) [] = Ok []
new_entries i c factor k (t ∷ ts) (other ∷ others) =
    next (new_entry i c factor k t other) (λ x. next (new_entries i c factor (suc k) ts others) (λ xs. Ok (x ∷ xs)))

-- a whole row: its factor is its entry in the entering column over the leaving row's there
abbrev pub new_row : ℕ → List Fraction → ℕ → List Fraction → Placed (List Fraction)
new_row c leaving i row =
    next (placed i c (divided (entry_of row c) (entry_of leaving c))) (λ factor. new_entries i c factor 0 row leaving)

-- the rows from row i on
abbrev pub new_rows : ℕ → List Fraction → ℕ → List (List Fraction) → Placed (List (List Fraction))
new_rows c leaving i [] = Ok []
new_rows c leaving i (row ∷ rows) =
    next (new_row c leaving i row) (λ x. next (new_rows c leaving (suc i) rows) (λ xs. Ok (x ∷ xs)))

-- the tableau after the pivot: column c belongs to the quantity of row r
abbrev pub pivoted : Table → ℕ → ℕ → Placed Table
pivoted t r c =
    next (new_rows c (row_at t.rows r) 0 t.rows) (λ rows. Ok (record { columns = slice_set t.columns (c - 1) r; rows = rows }))
