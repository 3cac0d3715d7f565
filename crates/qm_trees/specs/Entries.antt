-- Combinations: multipliers on rows.
use Rattle.std.specs.Prelude.{◌<◌, nat_lt, pos, Bool, true, false, ◌&&◌, List, [], ◌∷◌, All, Option, slice_get}
use Rattle.std.specs.Option.{option_map}
use Rattle.std.specs.List.{filter_map, list_all}
use Rattle.qm_math.specs.Fraction.{Fraction, HasPositiveDen, whole, IsBelow, is_below}
use Rattle.qm_frac.specs.Lowest.{IsFrac}
use Rattle.qm_model.specs.declared.row.Row.{Row}
use Rattle.qm_model.specs.declared.row_id.RowId.{RowId}
use Rattle.qm_model.specs.declared.row_id.RowId.TheVariants as id
use Rattle.qm_model.specs.declared.game.Problem.{Problem}
use Rattle.qm_trees.specs.declared.combination.Entry.{Entry}
use Rattle.qm_trees.specs.Fractions.{is_frac}

pub record Combination : Type 0 where
  pub objective : Bool
  pub entries : List Entry

-- rows come first, then uncertainty rows, then cuts, each by number
abbrev pub IsBefore : RowId → RowId → Type 0
IsBefore (id.Row m) (id.Row n) = m < n
IsBefore (id.Row m) (id.Uncertain n) = Unit {0}
IsBefore (id.Row m) (id.Cut n) = Unit {0}
IsBefore (id.Uncertain m) (id.Row n) = ⊥
IsBefore (id.Uncertain m) (id.Uncertain n) = m < n
IsBefore (id.Uncertain m) (id.Cut n) = Unit {0}
IsBefore (id.Cut m) (id.Row n) = ⊥
IsBefore (id.Cut m) (id.Uncertain n) = ⊥
IsBefore (id.Cut m) (id.Cut n) = m < n

abbrev pub is_before : RowId → RowId → Bool
is_before (id.Row m) (id.Row n) = nat_lt m n
is_before (id.Row m) (id.Uncertain n) = true
is_before (id.Row m) (id.Cut n) = true
is_before (id.Uncertain m) (id.Row n) = false
is_before (id.Uncertain m) (id.Uncertain n) = nat_lt m n
is_before (id.Uncertain m) (id.Cut n) = true
is_before (id.Cut m) (id.Row n) = false
is_before (id.Cut m) (id.Uncertain n) = false
is_before (id.Cut m) (id.Cut n) = nat_lt m n

-- the multiplier is a number above 0
abbrev pub IsPositive : Entry → Type 0
IsPositive e = HasPositiveDen e.by × IsBelow (whole (pos 0)) e.by

abbrev pub is_positive : Entry → Bool
is_positive e = nat_lt 0 e.by.den && is_below (whole (pos 0)) e.by

-- multipliers above 0, each on a row behind the one before
abbrev pub AreEntries : List Entry → Type 0
AreEntries [] = Unit {0}
AreEntries (e ∷ []) = IsPositive e
AreEntries (e ∷ f ∷ es) = IsPositive e × IsBefore e.row f.row × AreEntries (f ∷ es)

abbrev pub are_entries : List Entry → Bool
are_entries [] = true
are_entries (e ∷ []) = is_positive e
are_entries (e ∷ f ∷ es) = is_positive e && is_before e.row f.row && are_entries (f ∷ es)

-- The form of a combination: the entries are in the order of their rows, no row twice, and each multiplier is above 0
-- and a fraction of the program.
abbrev pub AreWellFormed : List Entry → Type 0
AreWellFormed es = AreEntries es × All (λ e. IsFrac e.by) es

abbrev pub are_well_formed : List Entry → Bool
are_well_formed es = are_entries es && list_all (λ e. is_frac e.by) es

-- the row that is named, among the rows, the uncertainty rows and the cuts
abbrev pub row_named : Problem → List Row → RowId → Option Row
row_named P cuts (id.Row n) = slice_get P.rows n
row_named P cuts (id.Uncertain n) = slice_get P.urows n
row_named P cuts (id.Cut n) = slice_get cuts n

-- a row and its multiplier
pub record Weighted : Type 0 where
  pub row : Row
  pub by : Fraction

abbrev pub with_row : Fraction → Row → Weighted
with_row by row = record { row = row; by = by }

-- the rows that the entries name, with their multipliers; a row that isn't there is left out
abbrev pub weighted_rows : Problem → List Row → List Entry → List Weighted
weighted_rows P cuts es = filter_map (λ e. option_map (with_row e.by) (row_named P cuts e.row)) es
