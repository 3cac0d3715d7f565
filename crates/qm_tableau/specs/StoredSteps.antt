-- How the rows of a tableau are kept: as fractions, or as whole numbers over one denominator a row.
use Rattle.std.specs.Prelude.{◌≡◌, ℕ, suc, ◌*◌, ◌≤◌, ℤ, Bool, true, false, List, [], All, map, length}
use Rattle.qm_math.specs.Fraction.{Fraction, whole}
use Rattle.qm_tableau.specs.Wholes.{IsSmallRow, fractions_of}

-- rows of fractions, and how many more fractions there is room for
pub record FractionRows : Type 0 where
  pub width : ℕ
  pub rows : List (List Fraction)
  pub spare : ℕ

-- rows of whole numbers
pub record WholeRows : Type 0 where
  pub width : ℕ
  pub rows : List (List ℤ)

-- whole entries, where they are kept as whole numbers or as fractions
abbrev pub kept_entries : Bool → List ℤ → List Fraction → List Fraction
kept_entries true wholes fractions = map whole wholes
kept_entries false wholes fractions = fractions

-- the rows, where they are kept as whole numbers or as fractions
abbrev pub kept_rows : Bool → List (List ℤ) → List (List Fraction) → List (List Fraction)
kept_rows true wholes fractions = map fractions_of wholes
kept_rows false wholes fractions = fractions

-- no rows of this width yet, and room for so many
pub record IsRoom (w n : ℕ) (f : FractionRows) : Type 0 where
  pub width : f.width ≡ w
  pub rows : f.rows ≡ []
  pub spare : n * w ≤ f.spare

-- whole numbers, room for the rows after a pivot, and room for both as fractions
pub record AreWhole (wholes others : WholeRows) (fractions spare : FractionRows) : Type 0 where
  pub width : wholes.width ≡ suc fractions.width
  pub small : All IsSmallRow wholes.rows
  pub other_width : others.width ≡ wholes.width
  pub other_count : length others.rows ≡ length wholes.rows
  pub room : IsRoom fractions.width (length wholes.rows) fractions
  pub more_room : IsRoom fractions.width (length wholes.rows) spare

-- fractions, and room for the rows after a pivot
pub record AreFractions (fractions spare : FractionRows) : Type 0 where
  pub width : spare.width ≡ fractions.width
  pub count : length spare.rows ≡ length fractions.rows

abbrev pub AreKept : Bool → WholeRows → WholeRows → FractionRows → FractionRows → Type 0
AreKept true wholes others fractions spare = AreWhole wholes others fractions spare
AreKept false wholes others fractions spare = AreFractions fractions spare
