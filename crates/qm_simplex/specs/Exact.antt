-- The run in unbounded fractions.
use Rattle.std.specs.Prelude.{◌≡◌, ℕ, suc, pos, Bool, true, false, List, [], ◌∷◌, drop, Option, Some, None, if◌then◌else◌, int_lt}
use Rattle.qm_math.specs.Fraction.{Fraction, is_below}
use Rattle.qm_math.specs.Arithmetic.{quotient_of}
use Rattle.qm_tableau.specs.declared.choice.Choice.{Choice}
use Rattle.qm_tableau.specs.declared.choice.Choice.TheVariants as choice
use Rattle.qm_tableau.specs.Tables.{Table, entry_of, row_at}
use Rattle.qm_tableau.specs.Rule.{choice_of, leaving_row}
use Rattle.qm_tableau.specs.Exact.{exact_table}
use Rattle.qm_simplex.specs.Runs.{Pivot}

-- whether column k over its entry p is lexicographically greater than column b over its entry q
abbrev pub is_exactly_greater : ℕ → Fraction → ℕ → Fraction → List (List Fraction) → Bool
is_exactly_greater k p b q [] = false
is_exactly_greater k p b q (row ∷ rows) =
    if is_below (quotient_of (entry_of row b) q) (quotient_of (entry_of row k) p) then true
    else (if is_below (quotient_of (entry_of row k) p) (quotient_of (entry_of row b) q) then false else is_exactly_greater k p b q rows)

-- the greater of the column k and the best so far, which stays where they don't differ
abbrev pub exactly_greater_column : List (List Fraction) → List Fraction → ℕ → Option ℕ → ℕ
exactly_greater_column rows leaving k None = k
exactly_greater_column rows leaving k (Some b) =
    if is_exactly_greater k (entry_of leaving k) b (entry_of leaving b) rows then k else b

-- the greatest column among the best so far and the candidates from column k on
abbrev pub exact_entering_column : List (List Fraction) → List Fraction → ℕ → Option ℕ → List Fraction → Option ℕ
exact_entering_column rows leaving k best [] = best
exact_entering_column rows leaving k best (t ∷ ts) =
    if int_lt (pos 0) t.num
    then exact_entering_column rows leaving (suc k) (Some (exactly_greater_column rows leaving k best)) ts
    else exact_entering_column rows leaving (suc k) best ts

abbrev pub exact_choice_at : List (List Fraction) → Option ℕ → Choice
exact_choice_at rows None = choice.Done
exact_choice_at rows (Some r) = choice_of r (exact_entering_column rows (row_at rows r) 1 None (drop 1 (row_at rows r)))

-- what the rule names
abbrev pub exact_choice : Table → Choice
exact_choice t = exact_choice_at t.rows (leaving_row 1 (drop 1 t.rows))

-- from a tableau the rule names these pivots, one after the other, and they lead to the last tableau
abbrev pub LeadsExactly : Table → List Pivot → Table → Type 0
LeadsExactly t [] last = t ≡ last
LeadsExactly t (p ∷ ps) last = (exact_choice t ≡ choice.Pivot p.0 p.1) × LeadsExactly (exact_table t p.0 p.1) ps last
