-- When the run over a box fails, so that nothing is told of its relaxation.
use Rattle.std.specs.Prelude.{◌≡◌, List, Any, Ok, Err}
use Rattle.qm_frac.specs.Checked.{Checked}
use Rattle.qm_model.specs.declared.range.Range.{Range}
use Rattle.qm_model.specs.declared.row.Row.{Row}
use Rattle.qm_model.specs.declared.game.Problem.{Problem}
use Rattle.qm_model.specs.Boxes.{IsEmptyRange}
use Rattle.qm_trees.specs.declared.combination.ComboValue.{ComboValue}
use Rattle.qm_trees.specs.Entries.{Combination, weighted_rows}
use Rattle.qm_trees.specs.Evaluation.{value_of}
use Rattle.qm_simplex.specs.declared.answers.LpEnd.{LpEnd}
use Rattle.qm_simplex.specs.declared.answers.LpEnd.TheVariants.{Best, Void}
use Rattle.qm_simplex.specs.Stops.{IsRun}
use Rattle.qm_relax.specs.declared.answers.WhyNot.{WhyNot}
use Rattle.qm_relax.specs.declared.answers.WhyNot.TheVariants as why

-- the combination that a run ends with
abbrev pub combination_at : LpEnd → Combination
combination_at (Best point value combo pivots) = combo
combination_at (Void combo pivots) = combo

-- what it comes to over the box, operation by operation
abbrev pub value_at_end : Problem → List Row → List Range → LpEnd → Checked ComboValue
value_at_end P cuts bx end = value_of P (combination_at end).objective (weighted_rows P cuts (combination_at end).entries) bx

-- an operation of the run leaves, those of its value and its point included; or it ends, and an operation of its combination's value leaves
abbrev pub LeavesBy : Problem → List Row → List Range → WhyNot → Type 0
LeavesBy P cuts bx (why.Run leaves) = IsRun P cuts bx (Err leaves)
LeavesBy P cuts bx (why.Combination leaves) = (end : LpEnd) × IsRun P cuts bx (Ok end) × (value_at_end P cuts bx end ≡ Err leaves)

-- the run of a game, cuts and a box fails so; where a range is empty there is no run
pub record FailsBy (P : Problem) (cuts : List Row) (bx : List Range) (why : WhyNot) : Type 0 where
  pub full : Any IsEmptyRange bx → ⊥
  pub leaves : LeavesBy P cuts bx why

-- the run fails
abbrev pub Fails : Problem → List Row → List Range → Type 0
Fails P cuts bx = (why : WhyNot) × FailsBy P cuts bx why
