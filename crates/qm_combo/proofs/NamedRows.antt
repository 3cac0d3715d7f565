-- The rows that entries name, one entry after the other.
use Rattle.std.proofs.Common.{◌≡◌, ◌∙◌, ℕ, ◌+◌, ◌<◌, List, ◌∷◌, length, get_or, drop}
use Rattle.std.specs.Prelude.{Some}
use Rattle.std.proofs.lemmas.List.{at_drop_more}
use Rattle.qm_model.specs.declared.row.Row.{Row}
use Rattle.qm_model.specs.declared.game.Problem.{Problem}
use Rattle.qm_trees.specs.declared.combination.Entry.{Entry}
use Rattle.qm_trees.specs.Entries.{row_named, weighted_rows, with_row}

pub weighted_more : (P : Problem) (cuts : List Row) (es : List Entry) (i : ℕ) (d : Entry) (row : Row)
    → i < length es → row_named P cuts (get_or es i d).row ≡ Some row
    → weighted_rows P cuts (drop i es) ≡ with_row (get_or es i d).by row ∷ weighted_rows P cuts (drop (i + 1) es)
weighted_more P cuts es i d row h e = at_drop_more (weighted_rows P cuts) es i d h ∙ rw e
