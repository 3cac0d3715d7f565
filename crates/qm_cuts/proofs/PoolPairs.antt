-- The two lists of a pool and the list of its pairs.
use Rattle.std.proofs.Common.{◌≡◌, ap, refl, suc, List, [], ◌∷◌, ◌++◌, length, arith}
use Rattle.qm_model.specs.declared.row.Row.{Row}
use Rattle.qm_trees.specs.declared.cut_combo.CutEntry.{CutEntry}
use Rattle.qm_cuts.specs.Pools.{combos_of, derived_of, rows_of}

pub rows_of-derived : (combos : List (List CutEntry)) (rows : List Row) → length combos ≡ length rows → rows_of (derived_of combos rows) ≡ rows
rows_of-derived [] [] h = refl
rows_of-derived [] (r ∷ rows) h = absurd (omega (arith, h))
rows_of-derived (c ∷ combos) [] h = absurd (omega (arith, h))
rows_of-derived (c ∷ combos) (r ∷ rows) h = ap (λ rs. r ∷ rs) (rows_of-derived combos rows (omega (arith, h)))

pub combos_of-derived : (combos : List (List CutEntry)) (rows : List Row) → length combos ≡ length rows → combos_of (derived_of combos rows) ≡ combos
combos_of-derived [] [] h = refl
combos_of-derived [] (r ∷ rows) h = absurd (omega (arith, h))
combos_of-derived (c ∷ combos) [] h = absurd (omega (arith, h))
combos_of-derived (c ∷ combos) (r ∷ rows) h = ap (λ cs. c ∷ cs) (combos_of-derived combos rows (omega (arith, h)))

pub derived_of-append : (combos : List (List CutEntry)) (rows : List Row) (es : List CutEntry) (row : Row) → length combos ≡ length rows
    → derived_of (combos ++ es ∷ []) (rows ++ row ∷ []) ≡ derived_of combos rows ++ record { entries = es; row = row } ∷ []
derived_of-append [] [] es row h = refl
derived_of-append [] (r ∷ rows) es row h = absurd (omega (arith, h))
derived_of-append (c ∷ combos) [] es row h = absurd (omega (arith, h))
derived_of-append (c ∷ combos) (r ∷ rows) es row h = ap (λ cuts. record { entries = c; row = r } ∷ cuts) (derived_of-append combos rows es row (omega (arith, h)))

pub length-derived : (combos : List (List CutEntry)) (rows : List Row) → length combos ≡ length rows → length (derived_of combos rows) ≡ length rows
length-derived [] [] h = refl
length-derived [] (r ∷ rows) h = absurd (omega (arith, h))
length-derived (c ∷ combos) [] h = refl
length-derived (c ∷ combos) (r ∷ rows) h = ap suc (length-derived combos rows (omega (arith, h)))
