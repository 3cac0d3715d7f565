-- The variables and rows of the games that are timed.
use Rattle.std.specs.Prelude.{◌≡◌, ℕ, ◌≤◌, pos, true, IsTrue, List, All, length, take, unsigned_abs}
use Rattle.qm_model.specs.declared.row.Row.{Row}
use Rattle.qm_model.specs.declared.variable.Var.{Var}
use Rattle.qm_model.specs.Linear.{HasVarsBelow, IsOrdered}
use Rattle.qm_model.specs.Plays.{is_universal}

-- a whole variable from 0 to at most 1000
pub record IsPlain (x : Var) : Type 0 where
  pub whole : x.whole ≡ true
  pub low : x.low ≡ pos 0
  pub high : unsigned_abs x.high ≤ 1000

-- the universal player sets the first so many variables
abbrev pub AreUniversal : ℕ → List Var → Type 0
AreUniversal universals xs = All (λ x. IsTrue (is_universal x)) (take universals xs)

-- a row over the first 1000 variables, of at most 400 small terms
pub record IsPlainRow (row : Row) : Type 0 where
  pub ordered : IsOrdered row.terms
  pub vars : HasVarsBelow 1000 row.terms
  pub few : length row.terms ≤ 400
  pub small : All (λ t. unsigned_abs t.coef ≤ 8) row.terms
  pub right : unsigned_abs row.right ≤ 4000

-- such a row over the first so many variables
pub record IsPlainUncertainty (universals : ℕ) (row : Row) : Type 0 where
  pub plain : IsPlainRow row
  pub vars : HasVarsBelow universals row.terms
