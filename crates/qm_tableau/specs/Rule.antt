-- The rule that names the next pivot.
use Rattle.std.specs.Prelude.{ℕ, suc, ◌<◌, ◌≤◌, length, pos, ◌<ℤ◌, Bool, true, false, List, [], ◌∷◌, drop, Option, Some, None, Ok, if◌then◌else◌, int_lt}
use Rattle.std.specs.declared.cmp.Ordering.TheVariants.{Less, Equal, Greater}
use Rattle.qm_math.specs.Fraction.{Fraction}
use Rattle.qm_frac.specs.Checked.{divided}
use Rattle.qm_frac.specs.Order.{fraction_cmp}
use Rattle.qm_tableau.specs.declared.choice.Choice.{Choice}
use Rattle.qm_tableau.specs.declared.choice.Choice.TheVariants as choice
use Rattle.qm_tableau.specs.Tables.{Table, entry_at, entry_of, row_at}
use Rattle.qm_tableau.specs.Leaving.{Placed, placed, next}

-- the first row, from row i on, whose constant is negative
abbrev pub leaving_row : ℕ → List (List Fraction) → Option ℕ
leaving_row i [] = None
leaving_row i (row ∷ rows) = if int_lt (entry_of row 0).num (pos 0) then Some i else leaving_row (suc i) rows

-- Whether column k over its entry p is lexicographically greater than column b over its entry q, from row i on. In each
-- row the quotient of k is made first.
abbrev pub is_greater : ℕ → Fraction → ℕ → Fraction → ℕ → List (List Fraction) → Placed Bool
is_greater k p b q i [] = Ok false
is_greater k p b q i (row ∷ rows) =
    next (placed i k (divided (entry_of row k) p)) (λ x.
    next (placed i b (divided (entry_of row b) q)) (λ y.
    elim (fraction_cmp x y) [ Less ↦ Ok false | Equal ↦ is_greater k p b q (suc i) rows | Greater ↦ Ok true ]))

-- the greater of the column k and the best so far, which stays where they don't differ
abbrev pub greater_column : List (List Fraction) → List Fraction → ℕ → Option ℕ → Placed ℕ
greater_column rows leaving k None = Ok k
greater_column rows leaving k (Some b) =
    next (is_greater k (entry_of leaving k) b (entry_of leaving b) 0 rows) (λ greater. Ok (if greater then k else b))

-- the greatest column among the best so far and the candidates from column k on: those with a positive entry in the
-- leaving row
abbrev pub entering_column : List (List Fraction) → List Fraction → ℕ → Option ℕ → List Fraction → Placed (Option ℕ)
entering_column rows leaving k best [] = Ok best
entering_column rows leaving k best (t ∷ ts) =
    if int_lt (pos 0) t.num
    then next (greater_column rows leaving k best) (λ b. entering_column rows leaving (suc k) (Some b) ts)
    else entering_column rows leaving (suc k) best ts

-- no row leaves; or row r leaves, and there is no candidate; or it leaves for column c
abbrev pub choice_of : ℕ → Option ℕ → Choice
choice_of r None = choice.VoidRow r
choice_of r (Some c) = choice.Pivot r c

abbrev pub choice_at : List (List Fraction) → Option ℕ → Placed Choice
choice_at rows None = Ok choice.Done
choice_at rows (Some r) =
    next (entering_column rows (row_at rows r) 1 None (drop 1 (row_at rows r))) (λ best. Ok (choice_of r best))

-- the choice: the leaving row is the first from row 1 on whose constant is negative
abbrev pub chosen : Table → Placed Choice
chosen t = choice_at t.rows (leaving_row 1 (drop 1 t.rows))

-- the row of a choice is there, and in the column of a pivot, from column 1 on, it has a positive entry
abbrev pub IsInTable : List (List Fraction) → ℕ → Choice → Type 0
IsInTable rows width choice.Done = Unit {0}
IsInTable rows width (choice.VoidRow r) = r < length rows
IsInTable rows width (choice.Pivot r c) = (r < length rows) × (1 ≤ c) × (c < width) × (pos 0 <ℤ (entry_at rows r c).num)
