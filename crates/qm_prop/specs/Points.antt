-- Points of a box: for each variable a numerator over one denominator.
use Rattle.std.specs.Prelude.{◌≡◌, ℕ, ◌<◌, ℤ, pos, ◌*ℤ◌, ◌≤ℤ◌, List, [], ◌∷◌, All}
use Rattle.qm_model.specs.declared.game.Problem.{Problem}
use Rattle.qm_model.specs.declared.range.Range.{Range}
use Rattle.qm_model.specs.declared.variable.Var.{Var}
use Rattle.qm_model.specs.Points.{HoldsOver}
use Rattle.qm_model.specs.Sound.{IsWhole}

-- the numerator stands for a whole number
abbrev pub IsMultiple : ℕ → ℤ → Type 0
IsMultiple den v = (k : ℤ) × (v ≡ k *ℤ pos den)

-- the value lies in the variable's range, and is whole where the variable is
pub record IsValueIn (den : ℕ) (x : Var) (r : Range) (v : ℤ) : Type 0 where
  pub low : (r.low *ℤ pos den) ≤ℤ v
  pub high : v ≤ℤ (r.high *ℤ pos den)
  pub whole : IsWhole x → IsMultiple den v

-- one value for each variable, each in its range
abbrev pub AreIn : ℕ → List Var → List Range → List ℤ → Type 0
AreIn den [] [] [] = Unit {0}
AreIn den (x ∷ xs) (r ∷ bx) (v ∷ values) = IsValueIn den x r v × AreIn den xs bx values
AreIn den xs bx values = ⊥

-- a point of the box that meets all rows and uncertainty rows
pub record IsPoint (P : Problem) (bx : List Range) (den : ℕ) (values : List ℤ) : Type 0 where
  pub positive : 0 < den
  pub within : AreIn den P.vars bx values
  pub rows : All (HoldsOver den values) P.rows
  pub urows : All (HoldsOver den values) P.urows
