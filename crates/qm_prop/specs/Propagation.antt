-- What propagation tells of the given box.
use Rattle.std.specs.Prelude.{◌≡◌, ℕ, ◌≤◌, ℤ, Bool, true, false, None, List, length, All, IsSomeAnd}
use Rattle.qm_model.specs.declared.game.Problem.{Problem}
use Rattle.qm_model.specs.declared.range.Range.{Range}
use Rattle.qm_model.specs.declared.row.Row.{Row}
use Rattle.qm_model.specs.declared.row_id.RowId.{RowId}
use Rattle.qm_model.specs.declared.variable.Var.{Var}
use Rattle.qm_model.specs.Boxes.{IsBox, IsDead}
use Rattle.qm_model.specs.Ranges.{range_at}
use Rattle.qm_prop.specs.declared.reason.Propagated.{Propagated}
use Rattle.qm_prop.specs.declared.reason.Propagated.TheVariants as end
use Rattle.qm_prop.specs.declared.reason.Reason.{Reason}
use Rattle.qm_prop.specs.Narrower.{narrower, slack_of}
use Rattle.qm_prop.specs.Courses.{is_whole_at}
use Rattle.qm_prop.specs.Points.{AreIn, IsPoint}
use Rattle.qm_prop.specs.Reasons.{AreReasons, box_after, row_named}

-- the row is not dead over the box, and narrows none of its variables
pub record IsAtRest (xs : List Var) (bx : List Range) (row : Row) : Type 0 where
  pub alive : ¬ IsDead bx row
  pub still : All (λ t. narrower (is_whole_at xs t.var) t.coef (slack_of row bx) (range_at bx t.var) ≡ None) row.terms

-- no row alone narrows the box
pub record AreAtRest (P : Problem) (bx : List Range) : Type 0 where
  pub rows : All (IsAtRest P.vars bx) P.rows
  pub urows : All (IsAtRest P.vars bx) P.urows

-- The reasons lead from the given box to the narrowed one, which has all its points that meet the rows and uncertainty
-- rows. Where it is settled, no row alone narrows it further; else there were 32 sweeps, each with a reason.
pub record Narrows (P : Problem) (given bx : List Range) (qs : List Reason) (at_rest : Bool) : Type 0 where
  pub box : IsBox P.vars bx
  pub reasons : AreReasons P given qs
  pub after : bx ≡ box_after given qs
  pub points : (den : ℕ) (values : List ℤ) → IsPoint P given den values → AreIn den P.vars bx values
  pub settled : at_rest ≡ true → AreAtRest P bx
  pub unsettled : at_rest ≡ false → 32 ≤ length qs

-- The row is dead over the box that the reasons lead to; so no point of the given box meets the rows and uncertainty
-- rows.
pub record Dies (P : Problem) (given : List Range) (row : RowId) (qs : List Reason) : Type 0 where
  pub reasons : AreReasons P given qs
  pub dead : IsSomeAnd (row_named P row) (IsDead (box_after given qs))
  pub void : (den : ℕ) (values : List ℤ) → ¬ IsPoint P given den values

abbrev pub Tells : Problem → List Range → Propagated → Type 0
Tells P given (end.Narrowed bx reasons settled) = Narrows P given bx reasons settled
Tells P given (end.Dead row reasons) = Dies P given row reasons
