-- Steps of the search: the choices of an existential variable, as far as they have been tried.
use Rattle.std.specs.Prelude.{ℕ, ◌+◌, ℤ, ◌≤ℤ◌, ◌<ℤ◌, List, All, drop, map, slice_set, Option, Some, None}
use Rattle.qm_math.specs.Fraction.{HasPositiveDen}
use Rattle.qm_game.specs.declared.goal.Goal.{Goal}
use Rattle.qm_game.specs.declared.goal.Goal.TheVariants.{Above}
use Rattle.qm_game.specs.Goals.{goal_of}
use Rattle.qm_model.specs.declared.range.Range.{Range}
use Rattle.qm_model.specs.declared.row.Row.{Row}
use Rattle.qm_model.specs.declared.variable.Var.{Var}
use Rattle.qm_model.specs.declared.game.Problem.{Problem}
use Rattle.qm_model.specs.Goals.{Reaches}
use Rattle.qm_model.specs.Ranges.{single}
use Rattle.qm_trees.specs.RefuteJudgement.{Head, range_of, below_of}
use Rattle.qm_search.specs.declared.choices.Best.{Best}
use Rattle.qm_search.specs.declared.choices.Choices.{Choices}
use Rattle.qm_search.specs.declared.choices.Tried.{Tried}
use Rattle.qm_search.specs.declared.choices.Tried.TheVariants.{Enough, More}
use Rattle.qm_search.specs.declared.window.Window.{Window}
use Rattle.qm_search.specs.OutcomeSteps.{IsAbove, Refutes, Secures}
use Rattle.qm_search.specs.PartSteps.{AreSingles, IsPast}
use Rattle.qm_search.specs.Windows.{IsUncapped}

-- the floor that no choice so far reaches: that of the window, until a choice has reached it
abbrev pub floor_beyond : Goal → Option Best → Goal
floor_beyond floor None = floor
floor_beyond floor (Some best) = Above best.value

-- the window of the next choice
abbrev pub choice_window : Window → Option Best → Window
choice_window W best = record { floor = floor_beyond W.floor best; cap = W.cap }

-- the choice has been tried: its value lies in the window, and the policy below it secures it
pub record IsTried (P : Problem) (later : List Var) (depth : ℕ) (bx : List Range) (W : Window) (low next : ℤ) (best : Best) : Type 0 where
  pub positive : HasPositiveDen best.value
  pub from : low ≤ℤ best.choice
  pub before : best.choice <ℤ next
  pub secures : Secures P later (depth + 1) (slice_set bx depth (single best.choice)) best.value best.policy
  pub reaches : Reaches best.value (goal_of W.floor)
  pub uncapped : IsUncapped W.cap best.value

-- where there is a best, it has been tried
abbrev pub IsBest : Problem → List Var → ℕ → List Range → Window → ℤ → ℤ → Option Best → Type 0
IsBest P later depth bx W low next None = Unit {0}
IsBest P later depth bx W low next (Some best) = IsTried P later depth bx W low next best

-- The values from `low` up to before `next` of the variable at the depth have been tried, where `later` are still to be
-- set behind it: the best is secured, and below each value the floor beyond it is refuted.
pub record AreChoices (P : Problem) (cuts : List Row) (heads : List Head) (later : List Var) (depth : ℕ) (bx : List Range) (W : Window) (low next : ℤ) (choices : Choices) : Type 0 where
  pub singles : AreSingles low next (map range_of choices.parts)
  pub below : All (λ part. Refutes P cuts heads later (depth + 1) (slice_set bx depth (range_of part)) (goal_of (floor_beyond W.floor choices.best)) (below_of part)) choices.parts
  pub best : IsBest P later depth bx W low next choices.best

-- a choice is enough, or there is one choice more
abbrev pub IsTrial : Problem → List Row → List Head → List Var → List Var → ℕ → List Range → Window → ℤ → ℤ → Tried → Type 0
IsTrial P cuts heads rest later depth bx W low next (Enough value policy) = IsAbove P rest depth bx W value policy
IsTrial P cuts heads rest later depth bx W low next (More choices) = AreChoices P cuts heads later depth bx W low next choices

-- all values of the range of the next variable have been tried, where `rest` are still to be set from it on
pub record AreAllTried (P : Problem) (cuts : List Row) (heads : List Head) (rest : List Var) (depth : ℕ) (bx : List Range) (W : Window) (values : Range) (tried : Choices) : Type 0 where
  pub next : ℤ
  pub past : IsPast values next
  pub choices : AreChoices P cuts heads (drop 1 rest) depth bx W values.low next tried

-- a choice is enough, or all values of the range have been tried
abbrev pub AreTried : Problem → List Row → List Head → List Var → ℕ → List Range → Window → Range → Tried → Type 0
AreTried P cuts heads rest depth bx W values (Enough value policy) = IsAbove P rest depth bx W value policy
AreTried P cuts heads rest depth bx W values (More choices) = AreAllTried P cuts heads rest depth bx W values choices
