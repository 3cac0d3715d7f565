-- Pools of cuts: the cuts in their order, each with the entries that it is made of.
use Rattle.std.specs.Prelude.{List, [], ◌∷◌, map}
use Rattle.qm_model.specs.declared.row.Row.{Row}
use Rattle.qm_trees.specs.declared.cut_combo.CutEntry.{CutEntry}
use Rattle.qm_trees.specs.CutRules.{Derived}

-- the entries and the rows in one list, each row with its entries; the shorter list ends it
abbrev pub derived_of : List (List CutEntry) → List Row → List Derived
derived_of [] rows = []
derived_of (es ∷ combos) [] = []
derived_of (es ∷ combos) (row ∷ rows) = record { entries = es; row = row } ∷ derived_of combos rows

abbrev pub rows_of : List Derived → List Row
rows_of cuts = map (λ c. c.row) cuts

abbrev pub combos_of : List Derived → List (List CutEntry)
combos_of cuts = map (λ c. c.entries) cuts
