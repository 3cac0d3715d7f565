-- Linear forms: terms that each name a variable and its coefficient.
use Rattle.std.specs.Prelude.{◌≢◌, ℕ, suc, ◌<◌, ℤ, pos, ◌+ℤ◌, ◌*ℤ◌, if◌then◌else◌, ◌==◌, List, [], ◌∷◌, All}
use Rattle.qm_math.specs.Sums.{sum_from}
use Rattle.qm_model.specs.declared.row.Term.{Term}

-- each term names a variable numbered at least so, each later term a greater one, none with the coefficient 0
abbrev pub IsOrderedFrom : ℕ → List Term → Type 0
IsOrderedFrom least [] = Unit {0}
IsOrderedFrom least (t ∷ ts) = (least < suc t.var) × (t.coef ≢ pos 0) × IsOrderedFrom (suc t.var) ts

-- the terms stand in game order, at most one for each variable, none with the coefficient 0
abbrev pub IsOrdered : List Term → Type 0
IsOrdered ts = IsOrderedFrom 0 ts

-- each term names a variable numbered below n
abbrev pub HasVarsBelow : ℕ → List Term → Type 0
HasVarsBelow n ts = All (λ t. t.var < n) ts

-- the coefficient of a variable, 0 where no term names it
abbrev pub coefficient : List Term → ℕ → ℤ
coefficient [] var = pos 0
coefficient (t ∷ ts) var = if t.var == var then t.coef +ℤ coefficient ts var else coefficient ts var

-- what f gives for each variable's coefficient and part, added up over all variables from `first` on
abbrev pub sum_over : {A : Type 0} → (ℤ → A → ℤ) → List Term → ℕ → List A → ℤ
sum_over f ts first parts = sum_from (λ var part. f (coefficient ts var) part) first parts

-- what the terms come to at these values of all variables
abbrev pub form : List Term → List ℤ → ℤ
form ts values = sum_over ◌*ℤ◌ ts 0 values
