-- What is a right answer about the relaxation of a box.
use Rattle.std.specs.Prelude.{◌≡◌, true, List, All, Ok}
use Rattle.qm_math.specs.Fraction.{Fraction, IsAtMost, IsSame}
use Rattle.qm_frac.specs.Lowest.{IsFrac}
use Rattle.qm_model.specs.declared.range.Range.{Range}
use Rattle.qm_model.specs.declared.row.Row.{Row}
use Rattle.qm_model.specs.declared.game.Problem.{Problem}
use Rattle.qm_model.specs.Goals.{Goal, Above, Reaches}
use Rattle.qm_trees.specs.BoxPoints.{objective_of}
use Rattle.qm_trees.specs.Closing.{closing}
use Rattle.qm_trees.specs.Entries.{AreEntries, Combination, weighted_rows}
use Rattle.qm_trees.specs.RefuteRight.{AreNamed}
use Rattle.qm_simplex.specs.Relaxation.{IsInRelaxation}
use Rattle.qm_relax.specs.declared.answers.BestPoint.{BestPoint}
use Rattle.qm_relax.specs.declared.answers.Relaxed.{Relaxed}
use Rattle.qm_relax.specs.declared.answers.Relaxed.TheVariants as relaxed
use Rattle.qm_relax.specs.declared.answers.RelaxedPoint.{RelaxedPoint}
use Rattle.qm_relax.specs.declared.answers.RelaxedPoint.TheVariants as pointed
use Rattle.qm_relax.specs.Failing.{FailsBy}

-- the combination's rows are there, and it closes the goal over the box, where no operation leaves
pub record ClosesInRange (P : Problem) (cuts : List Row) (bx : List Range) (G : Goal) (combo : Combination) : Type 0 where
  pub entries : AreEntries combo.entries
  pub named : AreNamed P cuts combo.entries
  pub closes : closing P combo.objective (weighted_rows P cuts combo.entries) bx G ≡ Ok true

-- the greatest objective over the relaxation: a point of it has this one, and none has more
pub record IsGreatest (P : Problem) (cuts : List Row) (bx : List Range) (value : Fraction) : Type 0 where
  pub lowest : IsFrac value
  pub reached : (point : List Fraction) × IsInRelaxation P cuts bx point × IsSame (objective_of P point) value
  pub most : (point : List Fraction) → IsInRelaxation P cuts bx point → IsAtMost (objective_of P point) value

-- the answer for a game, cuts, a box and a goal is right
abbrev pub IsRight : Problem → List Row → List Range → Goal → Relaxed → Type 0
IsRight P cuts bx G (relaxed.Closed combo) = ClosesInRange P cuts bx G combo
IsRight P cuts bx G (relaxed.Bound value) = IsGreatest P cuts bx value × Reaches value G
IsRight P cuts bx G (relaxed.NoBound why) = FailsBy P cuts bx why

abbrev pub HasNoBound : Relaxed → Type 0
HasNoBound (relaxed.Closed combo) = ⊥
HasNoBound (relaxed.Bound value) = ⊥
HasNoBound (relaxed.NoBound why) = Unit {0}

-- ---- with the point

abbrev pub without_point : RelaxedPoint → Relaxed
without_point (pointed.Closed combo) = relaxed.Closed combo
without_point (pointed.Bound best) = relaxed.Bound best.value
without_point (pointed.NoBound why) = relaxed.NoBound why

-- the point is in the relaxation and has the value as its objective, and the combination closes all that is above it, where no operation leaves
pub record IsBestPoint (P : Problem) (cuts : List Row) (bx : List Range) (best : BestPoint) : Type 0 where
  pub lowest : All IsFrac best.point
  pub feasible : IsInRelaxation P cuts bx best.point
  pub reached : IsSame (objective_of P best.point) best.value
  pub closes : ClosesInRange P cuts bx (Above best.value) best.combo

-- the fact holds of what is told beside a bound
abbrev pub IfBound : (BestPoint → Type 0) → RelaxedPoint → Type 0
IfBound Q (pointed.Closed combo) = Unit {0}
IfBound Q (pointed.Bound best) = Q best
IfBound Q (pointed.NoBound why) = Unit {0}
