-- A pivot in unbounded fractions.
use Rattle.std.specs.Prelude.{◌≡◌, ℕ, ◌-◌, List, map, slice_set}
use Rattle.std.specs.List.{AllZip}
use Rattle.qm_math.specs.Fraction.{Fraction, IsSame}
use Rattle.qm_math.specs.Arithmetic.{quotient_of}
use Rattle.qm_math.specs.Pivots.{pivoted_row}
use Rattle.qm_tableau.specs.Tables.{Table, entry_of, row_at}

-- a row, its constant in front: the leaving row is taken away so often that the entering column becomes 0, and that column
-- gets the factor
abbrev pub exact_row : ℕ → List Fraction → List Fraction → List Fraction
exact_row c leaving row = pivoted_row row (quotient_of (entry_of row c) (entry_of leaving c)) leaving c

abbrev pub exact_table : Table → ℕ → ℕ → Table
exact_table t r c = record {
  columns = slice_set t.columns (c - 1) r;
  rows = map (exact_row c (row_at t.rows r)) t.rows;
}

-- the same columns, and the same numbers in all rows
pub record AreSameTables (t u : Table) : Type 0 where
  pub columns : t.columns ≡ u.columns
  pub rows : AllZip (AllZip IsSame) t.rows u.rows
