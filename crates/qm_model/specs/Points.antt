-- Points: values of the continuous variables after a complete prefix.
use Rattle.std.specs.Prelude.{ℕ, ◌*◌, ◌<◌, ℤ, pos, ◌+ℤ◌, ◌*ℤ◌, ◌≤ℤ◌, List, [], ◌∷◌, ◌++◌, map, drop, All, unsigned_abs}
use Rattle.qm_math.specs.Fraction.{Fraction}
use Rattle.qm_model.specs.declared.row.Row.{Row}
use Rattle.qm_model.specs.declared.variable.Var.{Var}
use Rattle.qm_model.specs.declared.game.Problem.{Problem}
use Rattle.qm_model.specs.Linear.{form}

-- a numerator for each continuous variable, over one denominator
pub record Point : Type 0 where
  pub nums : List ℤ
  pub den : ℕ

-- the continuous variables, which come after the whole ones
abbrev pub continuous_vars : Problem → List Var
continuous_vars P = drop P.wholes P.vars

-- the values of all variables, as numerators over the point's denominator
abbrev pub values_over : List ℤ → Point → List ℤ
values_over prefix y = map (λ v. v *ℤ pos y.den) prefix ++ y.nums

-- one numerator for each variable, within its bounds over this denominator
abbrev pub AreWithinOver : ℕ → List Var → List ℤ → Type 0
AreWithinOver den [] [] = Unit {0}
AreWithinOver den [] (n ∷ ns) = ⊥
AreWithinOver den (x ∷ xs) [] = ⊥
AreWithinOver den (x ∷ xs) (n ∷ ns) = ((x.low *ℤ pos den) ≤ℤ n) × (n ≤ℤ (x.high *ℤ pos den)) × AreWithinOver den xs ns

-- the row holds at these numerators over this denominator
abbrev pub HoldsOver : ℕ → List ℤ → Row → Type 0
HoldsOver den values row = form row.terms values ≤ℤ (row.right *ℤ pos den)

-- the point lies within the bounds, and with the prefix it meets each row
pub record Meets (P : Problem) (prefix : List ℤ) (y : Point) : Type 0 where
  pub positive : 0 < y.den
  pub within : AreWithinOver y.den (continuous_vars P) y.nums
  pub rows : All (HoldsOver y.den (values_over prefix y)) P.rows

-- the objective at the point
abbrev pub objective_at : Problem → List ℤ → Point → Fraction
objective_at P prefix y = record {
  num = form P.terms (values_over prefix y) +ℤ (P.constant *ℤ pos y.den);
  den = unsigned_abs P.scale * y.den;
}
