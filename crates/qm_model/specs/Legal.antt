-- Which prefixes are legal: a test, by a search through the completions of the universal values.
use Rattle.std.specs.Prelude.{◌≡◌, ℤ, Bool, true, false, ◌&&◌, int_le, List, [], ◌∷◌, ◌++◌, length, drop, IsTrue, if◌then◌else◌}
use Rattle.std.specs.List.{list_all}
use Rattle.qm_math.specs.Ranges.{some_between}
use Rattle.qm_model.specs.declared.row.Row.{Row}
use Rattle.qm_model.specs.declared.variable.Var.{Var}
use Rattle.qm_model.specs.declared.game.Problem.{Problem}
use Rattle.qm_model.specs.Linear.{form}
use Rattle.qm_model.specs.Plays.{BeginWithin, IsPlay, is_universal, spread, universal_vars, whole_vars}

-- a prefix: values within the bounds of the first whole variables
abbrev pub IsPrefix : Problem → List ℤ → Type 0
IsPrefix P prefix = BeginWithin (whole_vars P) prefix

-- each whole variable has its value
abbrev pub IsComplete : Problem → List ℤ → Type 0
IsComplete P prefix = length prefix ≡ length (whole_vars P)

-- the values of the universal variables among these values of the first variables
abbrev pub universal_part : List Var → List ℤ → List ℤ
universal_part [] vs = []
universal_part (x ∷ xs) [] = []
universal_part (x ∷ xs) (v ∷ vs) = if is_universal x then v ∷ universal_part xs vs else universal_part xs vs

-- the row holds at these values of all variables
abbrev pub holds_at : List ℤ → Row → Bool
holds_at values row = int_le (form row.terms values) row.right

-- each of the first variables' values is within its bounds
abbrev pub begin_within : List Var → List ℤ → Bool
begin_within xs [] = true
begin_within [] (v ∷ vs) = false
begin_within (x ∷ xs) (v ∷ vs) = int_le x.low v && int_le v x.high && begin_within xs vs

-- some values of these variables, after the given ones, meet each uncertainty row
abbrev pub can_complete : Problem → List Var → List ℤ → Bool
can_complete P [] us = list_all (holds_at (spread (whole_vars P) us)) P.urows
can_complete P (x ∷ xs) us = some_between (λ v. can_complete P xs (us ++ v ∷ [])) x.low x.high

-- the universal values of the prefix are within bounds, and can be completed
unfoldable pub is_legal : Problem → List ℤ → Bool
is_legal P prefix =
    begin_within (universal_vars P) (universal_part (whole_vars P) prefix)
    && can_complete P (drop (length (universal_part (whole_vars P) prefix)) (universal_vars P)) (universal_part (whole_vars P) prefix)

abbrev pub IsLegal : Problem → List ℤ → Type 0
IsLegal P prefix = IsTrue (is_legal P prefix)

-- some universal play agrees with the prefix's universal values; it is legal exactly then
pub record AgreesWithPlay (P : Problem) (prefix : List ℤ) : Type 0 where
  pub rest : List ℤ
  pub is_play : IsPlay P (universal_part (whole_vars P) prefix ++ rest)
