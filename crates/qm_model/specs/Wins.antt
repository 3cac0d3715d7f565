-- Who wins: minimax over all values of all whole variables.
use Rattle.std.specs.Prelude.{ℤ, List, [], ◌∷◌, ◌++◌, drop, length}
use Rattle.qm_model.specs.declared.variable.Player.{Player}
use Rattle.qm_model.specs.declared.variable.Player.TheVariants.{Exists, All as Universal}
use Rattle.qm_model.specs.declared.variable.Var.{Var}
use Rattle.qm_model.specs.declared.game.Problem.{Problem}
use Rattle.qm_model.specs.Plays.{IsWithin, whole_vars}
use Rattle.qm_model.specs.Legal.{IsLegal}
use Rattle.qm_model.specs.Points.{Point, Meets, objective_at}
use Rattle.qm_model.specs.Goals.{Goal, Reaches}

-- some point after the complete prefix meets the rows and reaches the goal
pub record WinsAtEnd (P : Problem) (prefix : List ℤ) (G : Goal) : Type 0 where
  pub point : Point
  pub meets : Meets P prefix point
  pub reaches : Reaches (objective_at P prefix point) G

-- one fact where the existential player moves, another where the universal player does
abbrev pub MatchPlayer : Player → Type 0 → Type 0 → Type 0
MatchPlayer Exists E A = E
MatchPlayer Universal E A = A

-- The existential player reaches the goal from the prefix, where these whole variables are still to be set:
-- with none left by some point, else by some value of an existential variable, or against every value of a
-- universal one that keeps the prefix legal.
abbrev pub WinsFrom : Problem → Goal → List Var → List ℤ → Type 0
WinsFrom P G [] prefix = WinsAtEnd P prefix G
WinsFrom P G (x ∷ xs) prefix = MatchPlayer x.player
    ((v : ℤ) × IsWithin x v × WinsFrom P G xs (prefix ++ v ∷ []))
    ((v : ℤ) → IsWithin x v → IsLegal P (prefix ++ v ∷ []) → WinsFrom P G xs (prefix ++ v ∷ []))

abbrev pub Wins : Problem → List ℤ → Goal → Type 0
Wins P prefix G = WinsFrom P G (drop (length prefix) (whole_vars P)) prefix
