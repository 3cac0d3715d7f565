-- Entries of cuts: multipliers on rows, earlier cuts and the variables' own bounds.
use Rattle.std.specs.Prelude.{◌≡◌, ℕ, ◌<◌, ◌⊎◌, ℤ, pos, negsuc, neg_ℤ, List, [], ◌∷◌, All, Option, length, slice_get}
use Rattle.std.specs.List.{filter_map}
use Rattle.std.specs.Option.{option_map}
use Rattle.qm_math.specs.Fraction.{Fraction, whole, IsBelow}
use Rattle.qm_frac.specs.Lowest.{IsFrac}
use Rattle.qm_model.specs.declared.row.Row.{Row}
use Rattle.qm_model.specs.declared.variable.Var.{Var}
use Rattle.qm_model.specs.declared.game.Problem.{Problem}
use Rattle.qm_trees.specs.declared.cut_combo.CutEntry.{CutEntry}
use Rattle.qm_trees.specs.declared.cut_combo.CutRow.{CutRow}
use Rattle.qm_trees.specs.declared.cut_combo.CutRow.TheVariants as on
use Rattle.qm_trees.specs.Entries.{Weighted, with_row}

-- rows come first, then uncertainty rows, earlier cuts, lower bounds and upper bounds
abbrev pub kind_of : CutRow → ℕ
kind_of (on.Row n) = 0
kind_of (on.Uncertain n) = 1
kind_of (on.Cut n) = 2
kind_of (on.Low n) = 3
kind_of (on.High n) = 4

abbrev pub number_of : CutRow → ℕ
number_of (on.Row n) = n
number_of (on.Uncertain n) = n
number_of (on.Cut n) = n
number_of (on.Low n) = n
number_of (on.High n) = n

-- of one kind by number
abbrev pub IsBefore : CutRow → CutRow → Type 0
IsBefore a b = (kind_of a < kind_of b) ⊎ ((kind_of a ≡ kind_of b) × (number_of a < number_of b))

-- each entry stands on a row behind that of the one before
abbrev pub AreInOrder : List CutEntry → Type 0
AreInOrder [] = Unit {0}
AreInOrder (e ∷ []) = Unit {0}
AreInOrder (e ∷ f ∷ es) = IsBefore e.on f.on × AreInOrder (f ∷ es)

-- a fraction of the program above 0
abbrev pub IsMultiplier : Fraction → Type 0
IsMultiplier by = IsFrac by × IsBelow (whole (pos 0)) by

-- one entry or more, in the order of their rows and none twice, with multipliers above 0
pub record AreCutEntries (es : List CutEntry) : Type 0 where
  pub some : 0 < length es
  pub order : AreInOrder es
  pub multipliers : All (λ e. IsMultiplier e.by) es

-- the row x <= bound, or -x <= -bound, of the variable of a number
abbrev pub bound_row : ℤ → ℕ → ℤ → Row
bound_row sign var bound = record { terms = record { var = var; coef = sign } ∷ []; right = bound }

abbrev pub low_row : ℕ → Var → Row
low_row var x = bound_row (negsuc 0) var (neg_ℤ x.low)

abbrev pub high_row : ℕ → Var → Row
high_row var x = bound_row (pos 1) var x.high

-- the row that an entry stands on, where it is there: of the problem, of the earlier cuts, or of a variable's own bound
abbrev pub row_on : Problem → List Row → CutRow → Option Row
row_on P earlier (on.Row n) = slice_get P.rows n
row_on P earlier (on.Uncertain n) = slice_get P.urows n
row_on P earlier (on.Cut n) = slice_get earlier n
row_on P earlier (on.Low n) = option_map (low_row n) (slice_get P.vars n)
row_on P earlier (on.High n) = option_map (high_row n) (slice_get P.vars n)

-- the rows of the entries, with their multipliers; a row that isn't there is left out
abbrev pub rows_on : Problem → List Row → List CutEntry → List Weighted
rows_on P earlier es = filter_map (λ e. option_map (with_row e.by) (row_on P earlier e.on)) es
