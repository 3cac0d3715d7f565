-- How a problem ends.
use Rattle.std.specs.Prelude.{◌<◌, ℤ, List, []}
use Rattle.qm_math.specs.Fraction.{Fraction, IsSame}
use Rattle.qm_model.specs.declared.game.Problem.{Problem}
use Rattle.qm_model.specs.Plays.{IsPlay}
use Rattle.qm_model.specs.Goals.{Any, AtLeast, Above}
use Rattle.qm_model.specs.Wins.{Wins}

pub data Ending : Type 0 where
  Empty : Ending
  Infeasible : Ending
  Optimal : Fraction → Ending

-- there is no universal play
abbrev pub IsEmpty : Problem → Type 0
IsEmpty P = (us : List ℤ) → ¬ IsPlay P us

-- there is a universal play, and the existential player can't meet the rows against all of them
pub record IsInfeasible (P : Problem) : Type 0 where
  pub play : List ℤ
  pub is_play : IsPlay P play
  pub loses : ¬ Wins P [] Any

-- there is a universal play, at least v can be reached, and nothing above v
pub record IsOptimal (P : Problem) (v : Fraction) : Type 0 where
  pub positive : 0 < v.den
  pub play : List ℤ
  pub is_play : IsPlay P play
  pub reached : Wins P [] (AtLeast v)
  pub no_better : ¬ Wins P [] (Above v)

abbrev pub HasEnding : Problem → Ending → Type 0
HasEnding P Empty = IsEmpty P
HasEnding P Infeasible = IsInfeasible P
HasEnding P (Optimal v) = IsOptimal P v

-- one ending, values compared as numbers
abbrev pub IsSameEnding : Ending → Ending → Type 0
IsSameEnding Empty Empty = Unit {0}
IsSameEnding Empty Infeasible = ⊥
IsSameEnding Empty (Optimal w) = ⊥
IsSameEnding Infeasible Empty = ⊥
IsSameEnding Infeasible Infeasible = Unit {0}
IsSameEnding Infeasible (Optimal w) = ⊥
IsSameEnding (Optimal v) Empty = ⊥
IsSameEnding (Optimal v) Infeasible = ⊥
IsSameEnding (Optimal v) (Optimal w) = IsSame v w
