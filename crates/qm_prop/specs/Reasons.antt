-- Reasons: narrowings that each follow from one row over the box that those before lead to.
use Rattle.std.specs.Prelude.{◌≡◌, ◌≢◌, ℕ, ◌<◌, ℤ, Option, Some, None, List, [], ◌∷◌, IsSomeAnd, slice_get, slice_set}
use Rattle.std.specs.List.{fold}
use Rattle.qm_model.specs.declared.game.Problem.{Problem}
use Rattle.qm_model.specs.declared.range.Range.{Range}
use Rattle.qm_model.specs.declared.row.Row.{Row}
use Rattle.qm_model.specs.declared.row_id.RowId.{RowId}
use Rattle.qm_model.specs.declared.row_id.RowId.TheVariants as id
use Rattle.qm_model.specs.declared.variable.Var.{Var}
use Rattle.qm_model.specs.Boxes.{IsInside}
use Rattle.qm_model.specs.Points.{HoldsOver}
use Rattle.qm_prop.specs.declared.reason.Reason.{Reason}
use Rattle.qm_prop.specs.Points.{AreIn}

-- the row or uncertainty row of a name
abbrev pub row_named : Problem → RowId → Option Row
row_named P (id.Row n) = slice_get P.rows n
row_named P (id.Uncertain n) = slice_get P.urows n
row_named P (id.Cut n) = None

-- the box with the reason's range in its variable's place
abbrev pub narrowed : List Range → Reason → List Range
narrowed bx q = slice_set bx q.var q.after

-- each point of the box at which the row holds lies in the narrowed box
abbrev pub KeepsPoints : List Var → List Range → Reason → Row → Type 0
KeepsPoints xs bx q row = (den : ℕ) (values : List ℤ) → 0 < den → AreIn den xs bx values → HoldsOver den values row → AreIn den xs (narrowed bx q) values

-- the reason narrows its variable's range of this box, and loses no point at which its row holds
pub record Follows (P : Problem) (bx : List Range) (q : Reason) : Type 0 where
  pub before : slice_get bx q.var ≡ Some q.before
  pub inside : IsInside q.after q.before
  pub narrower : q.after ≢ q.before
  pub row : IsSomeAnd (row_named P q.row) (KeepsPoints P.vars bx q)

-- the box that the reasons lead to
abbrev pub box_after : List Range → List Reason → List Range
box_after bx qs = fold narrowed bx qs

-- each reason follows over the box that those before it lead to
abbrev pub AreReasons : Problem → List Range → List Reason → Type 0
AreReasons P bx [] = Unit {0}
AreReasons P bx (q ∷ qs) = Follows P bx q × AreReasons P (narrowed bx q) qs
