-- Completions of the universal player: values of the later universal variables with which the uncertainty rows hold.
use Rattle.std.specs.Prelude.{ℕ, ◌+◌, ℤ, Bool, true, false, ◌&&◌, int_le, List, [], ◌∷◌, ◌++◌, count_by, take, drop, ◌≤ℤ◌, if◌then◌else◌}
use Rattle.std.specs.List.{list_all}
use Rattle.qm_math.specs.Ranges.{IsBetween}
use Rattle.qm_model.specs.declared.row.Row.{Row}
use Rattle.qm_model.specs.declared.range.Range.{Range}
use Rattle.qm_model.specs.declared.variable.Var.{Var}
use Rattle.qm_model.specs.declared.game.Problem.{Problem}
use Rattle.qm_model.specs.Boxes.{greatest_value}
use Rattle.qm_model.specs.Plays.{is_universal}
use Rattle.qm_model.specs.Wins.{MatchPlayer}
use Rattle.qm_model.specs.Ranges.{single, is_in}

-- how many of the variables are universal
abbrev pub universal_count : List Var → ℕ
universal_count xs = count_by is_universal xs

-- the ranges of these variables, where each universal one is fixed at the next of the values
abbrev pub fixed : List Var → List Range → List ℤ → List Range
fixed [] bx us = bx
fixed (x ∷ xs) [] us = []
fixed (x ∷ xs) (r ∷ bx) [] = r ∷ bx
fixed (x ∷ xs) (r ∷ bx) (u ∷ us) = if is_universal x then single u ∷ fixed xs bx us else r ∷ fixed xs bx (u ∷ us)

-- the next value is one of the range, and the others fit
abbrev pub FitNext : Range → List ℤ → (List ℤ → Type 0) → Type 0
FitNext r [] Others = ⊥
FitNext r (u ∷ us) Others = IsBetween r.low r.high u × Others us

-- each value lies in the range of its universal variable, and there is one for each
abbrev pub Fit : List Var → List Range → List ℤ → Type 0
Fit [] bx [] = Unit {0}
Fit [] bx (u ∷ us) = ⊥
Fit (x ∷ xs) [] us = ⊥
Fit (x ∷ xs) (r ∷ bx) us = MatchPlayer x.player (Fit xs bx us) (FitNext r us (Fit xs bx))

-- the row holds at the worst ends of the box
abbrev pub HoldsOnBox : List Range → Row → Type 0
HoldsOnBox bx row = greatest_value row.terms bx ≤ℤ row.right

abbrev pub holds_on_box : List Range → Row → Bool
holds_on_box bx row = int_le (greatest_value row.terms bx) row.right

-- the box with the variable at the depth at a value, and the later universal variables at the completion
abbrev pub picked : ℕ → List Var → List Range → ℤ → List ℤ → List Range
picked depth later bx value completion = take depth bx ++ single value ∷ fixed later (drop (depth + 1) bx) completion

abbrev pub fit : List Var → List Range → List ℤ → Bool
fit [] bx [] = true
fit [] bx (u ∷ us) = false
fit (x ∷ xs) [] us = false
fit (x ∷ xs) (r ∷ bx) [] = if is_universal x then false else fit xs bx []
fit (x ∷ xs) (r ∷ bx) (u ∷ us) = if is_universal x then is_in r u && fit xs bx us else fit xs bx (u ∷ us)

-- each uncertainty row holds at the worst ends of the box so picked
abbrev pub meet_on_box : Problem → List Range → Bool
meet_on_box P bx = list_all (holds_on_box bx) P.urows
