-- What the end of a run means.
use Rattle.std.specs.Prelude.{◌≡◌, ℕ, ◌<◌, ◌≤◌, ◌^◌, true, false, List, length, Ok, Err}
use Rattle.qm_math.specs.Fraction.{Fraction, IsBelow, IsSame}
use Rattle.qm_model.specs.declared.range.Range.{Range}
use Rattle.qm_model.specs.declared.row.Row.{Row}
use Rattle.qm_model.specs.declared.game.Problem.{Problem}
use Rattle.qm_tableau.specs.Quantities.{quantities}
use Rattle.qm_trees.specs.Entries.{Combination, weighted_rows}
use Rattle.qm_trees.specs.Evaluation.{bound_of, least_combined, right_side}
use Rattle.qm_trees.specs.BoxPoints.{objective_of}
use Rattle.qm_simplex.specs.declared.answers.LpEnd.{LpEnd}
use Rattle.qm_simplex.specs.declared.answers.LpEnd.TheVariants.{Best, Void}
use Rattle.qm_simplex.specs.Relaxation.{IsInRelaxation}
use Rattle.qm_simplex.specs.Stops.{Answer}

-- The point is in the relaxation and has the value, and the combination bounds the objective by exactly the value.
pub record IsBest (P : Problem) (cuts : List Row) (bx : List Range) (point : List Fraction) (value : Fraction) (combo : Combination) : Type 0 where
  pub feasible : IsInRelaxation P cuts bx point
  pub reached : IsSame (objective_of P point) value
  pub objective : combo.objective ≡ true
  pub bound : IsSame (bound_of P (weighted_rows P cuts combo.entries) bx) value

-- the combination of rows alone contradicts the box
pub record IsVoid (P : Problem) (cuts : List Row) (bx : List Range) (combo : Combination) : Type 0 where
  pub objective : combo.objective ≡ false
  pub contradicts : IsBelow (right_side P false (weighted_rows P cuts combo.entries)) (least_combined P false (weighted_rows P cuts combo.entries) bx)

-- the end says what holds
abbrev pub IsRightEnd : Problem → List Row → List Range → LpEnd → Type 0
IsRightEnd P cuts bx (Best point value combo pivots) = IsBest P cuts bx point value combo
IsRightEnd P cuts bx (Void combo pivots) = IsVoid P cuts bx combo

abbrev pub pivots_of : LpEnd → ℕ
pivots_of (Best point value combo pivots) = pivots
pivots_of (Void combo pivots) = pivots

abbrev pub combination_of : LpEnd → Combination
combination_of (Best point value combo pivots) = combo
combination_of (Void combo pivots) = combo

-- how many finished pivots an answer may have at most: 2 to the number of quantities
abbrev pub most_pivots : Problem → List Row → List Range → ℕ
most_pivots P cuts bx = 2 ^ length (quantities P cuts bx)

abbrev pub IsShort : Problem → List Row → List Range → Answer → Type 0
IsShort P cuts bx (Ok end) = pivots_of end < most_pivots P cuts bx
IsShort P cuts bx (Err leaves) = length leaves.pivots ≤ most_pivots P cuts bx
