-- The universal player's plays.
use Rattle.std.specs.Prelude.{ℤ, pos, ◌≤ℤ◌, Bool, true, false, List, [], ◌∷◌, filter, take, All, if◌then◌else◌}
use Rattle.qm_math.specs.Ranges.{IsBetween}
use Rattle.qm_model.specs.declared.row.Row.{Row}
use Rattle.qm_model.specs.declared.variable.Player.TheVariants.{Exists, All as Universal}
use Rattle.qm_model.specs.declared.variable.Var.{Var}
use Rattle.qm_model.specs.declared.game.Problem.{Problem}
use Rattle.qm_model.specs.Linear.{form}

abbrev pub is_universal : Var → Bool
is_universal x = elim x.player [ Exists ↦ false | Universal ↦ true ]

-- the whole variables, which come first
abbrev pub whole_vars : Problem → List Var
whole_vars P = take P.wholes P.vars

abbrev pub universal_vars : Problem → List Var
universal_vars P = filter is_universal (whole_vars P)

-- a value within the bounds of its variable
abbrev pub IsWithin : Var → ℤ → Type 0
IsWithin x v = IsBetween x.low x.high v

-- one value for each variable, each within its bounds
abbrev pub AreWithin : List Var → List ℤ → Type 0
AreWithin [] [] = Unit {0}
AreWithin [] (v ∷ vs) = ⊥
AreWithin (x ∷ xs) [] = ⊥
AreWithin (x ∷ xs) (v ∷ vs) = IsWithin x v × AreWithin xs vs

-- a value for each of the first variables, each within its bounds
abbrev pub BeginWithin : List Var → List ℤ → Type 0
BeginWithin xs [] = Unit {0}
BeginWithin [] (v ∷ vs) = ⊥
BeginWithin (x ∷ xs) (v ∷ vs) = IsWithin x v × BeginWithin xs vs

-- a value for each variable: the next of the given ones for a universal variable, 0 for the others
abbrev pub spread : List Var → List ℤ → List ℤ
spread [] us = []
spread (x ∷ xs) [] = pos 0 ∷ spread xs []
spread (x ∷ xs) (u ∷ us) = if is_universal x then u ∷ spread xs us else pos 0 ∷ spread xs (u ∷ us)

-- the row holds at these values of all variables
abbrev pub HoldsAt : List ℤ → Row → Type 0
HoldsAt values row = form row.terms values ≤ℤ row.right

-- a universal play: a value for each universal variable, within its bounds, and each uncertainty row holds
pub record IsPlay (P : Problem) (us : List ℤ) : Type 0 where
  pub within : AreWithin (universal_vars P) us
  pub rows : All (HoldsAt (spread (whole_vars P) us)) P.urows
