-- Which row of a problem is the first that is dead over a box.
use Rattle.std.specs.Prelude.{List, Option, Some, None}
use Rattle.qm_model.specs.declared.range.Range.{Range}
use Rattle.qm_model.specs.declared.game.Problem.{Problem}
use Rattle.qm_model.specs.Boxes.{IsDead}
use Rattle.qm_model.specs.declared.row_id.RowId.{RowId}
use Rattle.qm_model.specs.declared.row_id.RowId.TheVariants.{Row, Uncertain, Cut}
use Rattle.qm_game.specs.First.{HasNone, IsFirst}

-- the first dead row, or where no row is dead the first dead uncertainty row, or where none is dead nothing
abbrev pub IsFirstDead : Problem → List Range → Option RowId → Type 0
IsFirstDead P bx (Some (Row number)) = IsFirst (IsDead bx) P.rows number
IsFirstDead P bx (Some (Uncertain number)) = HasNone (IsDead bx) P.rows × IsFirst (IsDead bx) P.urows number
IsFirstDead P bx (Some (Cut number)) = ⊥
IsFirstDead P bx None = HasNone (IsDead bx) P.rows × HasNone (IsDead bx) P.urows
