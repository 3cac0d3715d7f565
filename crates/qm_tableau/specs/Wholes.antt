-- Rows of whole numbers over one denominator, which stands in front: the number of column k has place k + 1.
use Rattle.std.specs.Prelude.{◌≡◌, ℕ, suc, ◌≤◌, ◌^◌, ℤ, pos, ◌-ℤ◌, ◌*ℤ◌, ◌<ℤ◌, unsigned_abs, List, [], ◌∷◌, All, length, map, drop, slice_index_or, if◌then◌else◌, ◌==◌}
use Rattle.qm_math.specs.Fraction.{Fraction}
use Rattle.qm_frac.specs.Lowest.{lowest}
use Rattle.qm_tableau.specs.Tables.{Table}

-- the number in a place
abbrev pub at_place : List ℤ → ℕ → ℤ
at_place row k = slice_index_or row k (pos 0)

-- the fractions of numbers over one denominator
abbrev pub over : ℕ → List ℤ → List Fraction
over d numbers = map (λ a. lowest a d) numbers

-- the fractions of a row
abbrev pub fractions_of : List ℤ → List Fraction
fractions_of [] = []
fractions_of (d ∷ numbers) = over (unsigned_abs d) numbers

abbrev pub IsSmall : ℤ → Type 0
IsSmall n = unsigned_abs n ≤ 2 ^ 62

-- the denominator is above 0, and no number is larger than 2 ^ 62
pub record IsSmallRow (row : List ℤ) : Type 0 where
  pub positive : pos 0 <ℤ at_place row 0
  pub small : All IsSmall row

-- the numbers from column k on, times p, less f times the leaving row's beside them; column c gets f times e
abbrev pub updated_numbers : ℕ → ℤ → ℤ → ℤ → ℕ → List ℤ → List ℤ → List ℤ
updated_numbers c p f e k [] others = []
updated_numbers c p f e k (a ∷ numbers) [] = []
updated_numbers c p f e k (a ∷ numbers) (b ∷ others) =
    (if k == c then f *ℤ e else (a *ℤ p) -ℤ (f *ℤ b)) ∷ updated_numbers c p f e (suc k) numbers others

-- A row after a pivot in column c, with all its common divisors: the row, its denominator too, times the pivot, less the
-- leaving row times the row's own number in the column, which becomes that number times the leaving row's denominator.
abbrev pub updated_row : ℕ → List ℤ → List ℤ → List ℤ
updated_row c leaving row =
    (at_place row 0 *ℤ at_place leaving (suc c)) ∷ updated_numbers c (at_place leaving (suc c)) (at_place row (suc c)) (at_place leaving 0) 0 (drop 1 row) (drop 1 leaving)

-- the table's rows are the fractions of these small rows
pub record AreSmallRows (t : Table) (rows : List (List ℤ)) : Type 0 where
  pub fractions : t.rows ≡ map fractions_of rows
  pub small : All IsSmallRow rows
  pub width : All (λ row. length row ≡ suc (suc (length t.columns))) rows
