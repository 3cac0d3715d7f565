-- Steps of the search: what the values of a universal variable come to, one by one and as far as they have been answered.
use Rattle.std.specs.Prelude.{◌≡◌, ℕ, ◌+◌, ℤ, ◌≤ℤ◌, ◌<ℤ◌, List, All, drop, map, slice_set, IsSomeAnd, Option, Some, None}
use Rattle.qm_math.specs.Fraction.{Fraction, HasPositiveDen}
use Rattle.qm_game.specs.Goals.{goal_of}
use Rattle.qm_model.specs.declared.range.Range.{Range}
use Rattle.qm_model.specs.declared.row.Row.{Row}
use Rattle.qm_model.specs.declared.variable.Var.{Var}
use Rattle.qm_model.specs.declared.game.Problem.{Problem}
use Rattle.qm_model.specs.Goals.{Above, Reaches}
use Rattle.qm_model.specs.Plays.{whole_vars}
use Rattle.qm_model.specs.Ranges.{single}
use Rattle.qm_trees.specs.declared.policy.Policy.{Policy}
use Rattle.qm_trees.specs.declared.refutation.Refute.{Refute}
use Rattle.qm_trees.specs.PolicyJudgement.{BelowLayer, range_of, below_of}
use Rattle.qm_trees.specs.RefuteJudgement.{Head}
use Rattle.qm_legal.specs.Queries.{Shows}
use Rattle.qm_search.specs.declared.answer.Answer.{Answer}
use Rattle.qm_search.specs.declared.answer.Answer.TheVariants.{Ended, Kept}
use Rattle.qm_search.specs.declared.answer.Reply.{Reply}
use Rattle.qm_search.specs.declared.answer.Reply.TheVariants.{Illegal, Reached, Secured}
use Rattle.qm_search.specs.declared.answers.Answered.{Answered}
use Rattle.qm_search.specs.declared.answers.Answered.TheVariants.{Enough, More}
use Rattle.qm_search.specs.declared.answers.Answers.{Answers}
use Rattle.qm_search.specs.declared.answers.Worst.{Worst}
use Rattle.qm_search.specs.declared.outcome.Outcome.{Outcome}
use Rattle.qm_search.specs.declared.outcome.Outcome.TheVariants.{At, Over}
use Rattle.qm_search.specs.declared.window.Window.{Window}
use Rattle.qm_search.specs.OutcomeSteps.{IsOutcome, Secures, SecuresBelow, Refutes}
use Rattle.qm_search.specs.PartSteps.{AreSingles, IsPast}
use Rattle.qm_search.specs.Windows.{IsUncapped}

-- the cap of the next value: that of the window, until a value below it has been reached
abbrev pub cap_below : Option Fraction → Option Worst → Option Fraction
cap_below cap None = cap
cap_below cap (Some worst) = Some worst.value

-- the window of the next value
abbrev pub answer_window : Window → Option Worst → Window
answer_window W worst = record { floor = W.floor; cap = cap_below W.cap worst }

-- a value of the next variable at the depth reaches what lies in the window, where `rest` are still to be set from it on
pub record IsAnswered (P : Problem) (cuts : List Row) (heads : List Head) (rest : List Var) (depth : ℕ) (bx : List Range) (W : Window) (at : ℤ) (value : Fraction) (policy : Policy) (tree : Refute) : Type 0 where
  pub positive : HasPositiveDen value
  pub secures : Secures P (drop 1 rest) (depth + 1) (slice_set bx depth (single at)) value policy
  pub refutes : Refutes P cuts heads rest depth bx (Above value) tree
  pub reaches : Reaches value (goal_of W.floor)
  pub uncapped : IsUncapped W.cap value

-- behind the value, what the cap tells is secured
abbrev pub IsSecured : Problem → List Var → ℕ → List Range → Window → ℤ → Policy → Type 0
IsSecured P rest depth bx W at policy = IsSomeAnd W.cap (λ cap. Secures P (drop 1 rest) (depth + 1) (slice_set bx depth (single at)) cap policy)

-- the value is illegal, which `first` isn't; or the cap is secured behind it; or what it reaches lies in the window
abbrev pub IsReply : Problem → List Row → List Head → List Var → ℕ → List Range → Window → ℤ → ℤ → Reply → Type 0
IsReply P cuts heads rest depth bx W first at (Illegal tree) = Shows P (whole_vars P) 0 (slice_set bx depth (single at)) tree × (at ≡ first → ⊥)
IsReply P cuts heads rest depth bx W first at (Secured policy) = IsSecured P rest depth bx W at policy
IsReply P cuts heads rest depth bx W first at (Reached value policy tree) = IsAnswered P cuts heads rest depth bx W at value policy tree

-- the outcome of the visit, or a reply to the value
abbrev pub IsRightAnswer : Problem → List Row → List Head → List Var → ℕ → List Range → Window → ℤ → ℤ → Answer → Type 0
IsRightAnswer P cuts heads rest depth bx W first at (Ended outcome) = IsOutcome P cuts heads rest depth bx W outcome
IsRightAnswer P cuts heads rest depth bx W first at (Kept reply) = IsReply P cuts heads rest depth bx W first at reply

-- the value lies in the window, and nothing above it is reached
pub record IsLeast (P : Problem) (cuts : List Row) (heads : List Head) (rest : List Var) (depth : ℕ) (bx : List Range) (W : Window) (worst : Worst) : Type 0 where
  pub positive : HasPositiveDen worst.value
  pub refutes : Refutes P cuts heads rest depth bx (Above worst.value) worst.refute
  pub reaches : Reaches worst.value (goal_of W.floor)
  pub uncapped : IsUncapped W.cap worst.value

-- nothing above the worst is reached; where there is neither a worst nor a cap, `first` isn't one of the values
abbrev pub IsWorst : Problem → List Row → List Head → List Var → ℕ → List Range → Window → ℤ → ℤ → ℤ → Option Worst → Type 0
IsWorst P cuts heads rest depth bx W first low next None = W.cap ≡ None → low ≤ℤ first → first <ℤ next → ⊥
IsWorst P cuts heads rest depth bx W first low next (Some worst) = IsLeast P cuts heads rest depth bx W worst

-- what stands below a range is right at the cap; where there is none, at every value
abbrev pub SecuresCap : Problem → List Var → ℕ → List Range → Option Fraction → BelowLayer → Type 0
SecuresCap P later depth bx None layer = (v : Fraction) → SecuresBelow P later depth bx v layer
SecuresCap P later depth bx (Some cap) layer = SecuresBelow P later depth bx cap layer

-- The values from `low` up to before `next` of the next variable at the depth have been answered or shown to be
-- illegal, where `rest` are still to be set from it on and `first` is a legal value.
pub record AreAnswers (P : Problem) (cuts : List Row) (heads : List Head) (rest : List Var) (depth : ℕ) (bx : List Range) (W : Window) (first low next : ℤ) (answers : Answers) : Type 0 where
  pub singles : AreSingles low next (map range_of answers.parts)
  pub below : All (λ part. SecuresCap P (drop 1 rest) (depth + 1) (slice_set bx depth (range_of part)) (cap_below W.cap answers.worst) (below_of part)) answers.parts
  pub worst : IsWorst P cuts heads rest depth bx W first low next answers.worst

-- it is told that the policy secures the cap
abbrev pub IsOver : Option Fraction → Policy → Outcome → Type 0
IsOver None policy outcome = ⊥
IsOver (Some cap) policy outcome = HasPositiveDen cap × (outcome ≡ Over cap policy)

-- all values of the range have been answered or shown to be illegal
pub record AreAllAnswered (P : Problem) (cuts : List Row) (heads : List Head) (rest : List Var) (depth : ℕ) (bx : List Range) (W : Window) (first : ℤ) (values : Range) (answered : Answers) : Type 0 where
  pub next : ℤ
  pub past : IsPast values next
  pub answers : AreAnswers P cuts heads rest depth bx W first values.low next answered

-- the outcome of the visit, or all values of the range have been answered
abbrev pub AreAnswered : Problem → List Row → List Head → List Var → ℕ → List Range → Window → ℤ → Range → Answered → Type 0
AreAnswered P cuts heads rest depth bx W first values (Enough outcome) = IsOutcome P cuts heads rest depth bx W outcome
AreAnswered P cuts heads rest depth bx W first values (More answers) = AreAllAnswered P cuts heads rest depth bx W first values answers

-- the policy secures the worst value so far, or this one where there is none
abbrev pub at_worst : Option Worst → Fraction → Policy → Outcome
at_worst None value policy = Over value policy
at_worst (Some worst) value policy = At worst.value policy worst.refute
