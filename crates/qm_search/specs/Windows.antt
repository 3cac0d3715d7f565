-- Steps of the search: which values a visit is to tell apart.
use Rattle.std.specs.Prelude.{Option, Some, None}
use Rattle.qm_math.specs.Fraction.{Fraction, HasPositiveDen, IsAtMost, IsBelow}
use Rattle.qm_game.specs.Goals.{goal_of}
use Rattle.qm_model.specs.Goals.{IsProper}
use Rattle.qm_search.specs.declared.window.Window.{Window}

-- the value is below the cap, where there is one
abbrev pub IsUncapped : Option Fraction → Fraction → Type 0
IsUncapped None value = Unit {0}
IsUncapped (Some cap) value = IsBelow value cap

-- there is a cap, and the value is no less
abbrev pub IsCapped : Option Fraction → Fraction → Type 0
IsCapped None value = ⊥
IsCapped (Some cap) value = IsAtMost cap value

-- the cap is a fraction, where there is one
abbrev pub IsProperCap : Option Fraction → Type 0
IsProperCap None = Unit {0}
IsProperCap (Some cap) = HasPositiveDen cap

-- the numbers of the floor and of the cap are fractions
pub record IsProperWindow (W : Window) : Type 0 where
  pub floor : IsProper (goal_of W.floor)
  pub cap : IsProperCap W.cap
