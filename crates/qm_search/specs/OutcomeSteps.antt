-- Steps of the search: what it tells of a box, with the trees that show it. Refutations may name cuts, and use lemmas of
-- these heads.
use Rattle.std.specs.Prelude.{ℕ, List}
use Rattle.qm_math.specs.Fraction.{Fraction, HasPositiveDen}
use Rattle.qm_game.specs.Goals.{goal_of}
use Rattle.qm_model.specs.declared.range.Range.{Range}
use Rattle.qm_model.specs.declared.row.Row.{Row}
use Rattle.qm_model.specs.declared.variable.Var.{Var}
use Rattle.qm_model.specs.declared.game.Problem.{Problem}
use Rattle.qm_model.specs.Goals.{Goal, Any, Above, Reaches}
use Rattle.qm_trees.specs.declared.policy.Policy.{Policy}
use Rattle.qm_trees.specs.declared.refutation.Refute.{Refute}
use Rattle.qm_trees.specs.PolicyJudgement.{BelowLayer}
use Rattle.qm_trees.specs.PolicyRight.{IsRightBelow, IsRightPolicy, IsBelowInRange, IsPolicyInRange}
use Rattle.qm_trees.specs.RefuteJudgement.{Head}
use Rattle.qm_trees.specs.RefuteRight.{IsRightRefutation, IsRefutationInRange}
use Rattle.qm_search.specs.declared.outcome.Outcome.{Outcome}
use Rattle.qm_search.specs.declared.outcome.Outcome.TheVariants.{Under, At, Over}
use Rattle.qm_search.specs.declared.played.Played.{Played}
use Rattle.qm_search.specs.declared.played.Played.TheVariants.{Lost, Reached}
use Rattle.qm_search.specs.declared.window.Window.{Window}
use Rattle.qm_search.specs.Windows.{IsCapped, IsUncapped}

-- the policy is right at the value, and no operation leaves
pub record Secures (P : Problem) (rest : List Var) (depth : ℕ) (bx : List Range) (v : Fraction) (policy : Policy) : Type 0 where
  pub right : IsRightPolicy P v rest depth bx policy
  pub in_range : IsPolicyInRange P v rest depth bx policy

-- what stands below a range is right at the value, and no operation leaves
pub record SecuresBelow (P : Problem) (rest : List Var) (depth : ℕ) (bx : List Range) (v : Fraction) (layer : BelowLayer) : Type 0 where
  pub right : IsRightBelow P (IsRightPolicy P v rest depth) bx layer
  pub in_range : IsBelowInRange P (IsPolicyInRange P v rest depth) bx layer

-- the refutation of the goal is right, and no operation leaves
pub record Refutes (P : Problem) (cuts : List Row) (heads : List Head) (rest : List Var) (depth : ℕ) (bx : List Range) (G : Goal) (tree : Refute) : Type 0 where
  pub right : IsRightRefutation P cuts heads G rest depth bx tree
  pub in_range : IsRefutationInRange P cuts heads G rest depth bx tree

-- the value is a fraction, a policy secures it, and a refutation shows that nothing above it is reached
pub record IsReached (P : Problem) (cuts : List Row) (heads : List Head) (rest : List Var) (depth : ℕ) (bx : List Range) (value : Fraction) (policy : Policy) (tree : Refute) : Type 0 where
  pub positive : HasPositiveDen value
  pub secures : Secures P rest depth bx value policy
  pub refutes : Refutes P cuts heads rest depth bx (Above value) tree

-- no goal can be reached, or the value is what is reached
abbrev pub IsPlayed : Problem → List Row → List Head → List Var → ℕ → List Range → Played → Type 0
IsPlayed P cuts heads rest depth bx (Lost tree) = Refutes P cuts heads rest depth bx Any tree
IsPlayed P cuts heads rest depth bx (Reached value policy tree) = IsReached P cuts heads rest depth bx value policy tree

-- the value is what is reached, and lies in the window
pub record IsInWindow (P : Problem) (cuts : List Row) (heads : List Head) (rest : List Var) (depth : ℕ) (bx : List Range) (W : Window) (value : Fraction) (policy : Policy) (tree : Refute) : Type 0 where
  pub reached : IsReached P cuts heads rest depth bx value policy tree
  pub reaches : Reaches value (goal_of W.floor)
  pub uncapped : IsUncapped W.cap value

-- the value is secured, and not below the cap
pub record IsAbove (P : Problem) (rest : List Var) (depth : ℕ) (bx : List Range) (W : Window) (value : Fraction) (policy : Policy) : Type 0 where
  pub positive : HasPositiveDen value
  pub secures : Secures P rest depth bx value policy
  pub capped : IsCapped W.cap value

-- the floor is refuted; or the value lies in the window, and is what is reached; or a value is secured that isn't below the cap
abbrev pub IsOutcome : Problem → List Row → List Head → List Var → ℕ → List Range → Window → Outcome → Type 0
IsOutcome P cuts heads rest depth bx W (Under tree) = Refutes P cuts heads rest depth bx (goal_of W.floor) tree
IsOutcome P cuts heads rest depth bx W (At value policy tree) = IsInWindow P cuts heads rest depth bx W value policy tree
IsOutcome P cuts heads rest depth bx W (Over value policy) = IsAbove P rest depth bx W value policy
