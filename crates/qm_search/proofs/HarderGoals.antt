-- Harder goals, and what a value that reaches a floor says of them.
use Rattle.std.proofs.Common.{ℕ, List, ℤ, pos, ◌≤ℤ◌, ◌<ℤ◌, arith}
use Rattle.std.proofs.lemmas.Int.{ints}
use Rattle.qm_math.specs.Fraction.{Fraction, HasPositiveDen, IsBelow}
use Rattle.qm_math.proofs.Compare.{below_at_most_weak}
use Rattle.qm_game.specs.declared.goal.Goal.{Goal as Floor}
use Rattle.qm_game.specs.declared.goal.Goal.TheVariants as floor
use Rattle.qm_game.specs.Goals.{goal_of}
use Rattle.qm_model.specs.declared.range.Range.{Range}
use Rattle.qm_model.specs.declared.row.Row.{Row}
use Rattle.qm_model.specs.declared.variable.Var.{Var}
use Rattle.qm_model.specs.declared.game.Problem.{Problem}
use Rattle.qm_model.specs.Goals.{Goal, Above, IsNoHarder, IsProper, Reaches}
use Rattle.qm_model.proofs.GoalOrder.{reaches_easier}
use Rattle.qm_trees.specs.declared.refutation.Refute.{Refute}
use Rattle.qm_trees.specs.RefuteJudgement.{Head}
use Rattle.qm_trees.proofs.HarderGoals.{right_at_harder, in_range_at_harder}
use Rattle.qm_search.specs.OutcomeSteps.{Refutes}

-- a refutation of a goal is one of each goal that is no easier
pub refutes_harder : (P : Problem) (cuts : List Row) (heads : List Head) (rest : List Var) (depth : ℕ) (bx : List Range) (G H : Goal) (tree : Refute) → pos 1 ≤ℤ P.scale → IsProper G → IsProper H
    → IsNoHarder G H → Refutes P cuts heads rest depth bx G tree → Refutes P cuts heads rest depth bx H tree
refutes_harder P cuts heads rest depth bx G H tree scale proper proper' order refutes = record {
  right = right_at_harder P cuts heads G H scale proper proper' order rest depth bx tree refutes.right;
  in_range = in_range_at_harder P cuts heads G H rest depth bx tree refutes.in_range;
}

-- a floor that a value reaches is no harder than all that is above the value
pub no_harder_above : (F : Floor) (value : Fraction) → Reaches value (goal_of F) → IsNoHarder (goal_of F) (Above value)
no_harder_above floor.Any value reaches = tt
no_harder_above (floor.Above t) value reaches = below_at_most_weak t value reaches

-- what is above a value that reaches the floor reaches it too
pub reaches_above : (F : Floor) (value more : Fraction) → HasPositiveDen value → HasPositiveDen more → IsProper (goal_of F) → Reaches value (goal_of F) → IsBelow value more → Reaches more (goal_of F)
reaches_above F value more positive positive' proper reaches above =
    reaches_easier more (goal_of F) (Above value) positive' proper positive (no_harder_above F value reaches) above

pub not_below : (a b : ℤ) → (a <ℤ b → ⊥) → b ≤ℤ a
not_below a b not = grind (arith, ints)

pub unreached : (value : Fraction) (F : Floor) → (Reaches value (goal_of F) → ⊥) → IsNoHarder (Above value) (goal_of F)
unreached value floor.Any not = not tt
unreached value (floor.Above most) not = not_below _ _ not
