-- The quantities that the rows of a tableau stand for: whole affine functions of the variables.
use Rattle.std.specs.Prelude.{ℕ, suc, ℤ, pos, ◌+ℤ◌, neg_ℤ, Bool, true, false, List, [], ◌∷◌, ◌++◌, map}
use Rattle.qm_model.specs.declared.range.Range.{Range}
use Rattle.qm_model.specs.declared.row.Term.{Term}
use Rattle.qm_model.specs.declared.row.Row.{Row}
use Rattle.qm_model.specs.declared.game.Problem.{Problem}
use Rattle.qm_model.specs.Linear.{coefficient, form}

-- the constant and the terms, or the constant less the terms
pub record Quantity : Type 0 where
  pub constant : ℤ
  pub less : Bool
  pub terms : List Term

-- a number, or its negative
abbrev pub turned : Bool → ℤ → ℤ
turned false n = n
turned true n = neg_ℤ n

-- the quantity's coefficient of a variable
abbrev pub coefficient_in : Quantity → ℕ → ℤ
coefficient_in q var = turned q.less (coefficient q.terms var)

-- what it comes to at whole values of the variables
abbrev pub whole_value : Quantity → List ℤ → ℤ
whole_value q values = q.constant +ℤ turned q.less (form q.terms values)

-- the terms and the constant of the objective, which is not divided by its scale
abbrev pub objective_quantity : Problem → Quantity
objective_quantity P = record { constant = P.constant; less = false; terms = P.terms }

-- high - x
abbrev pub high_quantity : ℕ → Range → Quantity
high_quantity var r = record { constant = r.high; less = true; terms = record { var = var; coef = pos 1 } ∷ [] }

-- x - low
abbrev pub low_quantity : ℕ → Range → Quantity
low_quantity var r = record { constant = neg_ℤ r.low; less = false; terms = record { var = var; coef = pos 1 } ∷ [] }

-- the slack of a row: its right side less its terms
abbrev pub slack_quantity : Row → Quantity
slack_quantity row = record { constant = row.right; less = true; terms = row.terms }

-- the two for each variable from `var` on
abbrev pub bound_quantities : ℕ → List Range → List Quantity
bound_quantities var [] = []
bound_quantities var (r ∷ rs) = high_quantity var r ∷ low_quantity var r ∷ bound_quantities (suc var) rs

-- row by row: the objective, for each variable its distances from the ends of its range, the slacks of the rows, those
-- of the uncertainty rows and those of the cuts
abbrev pub quantities : Problem → List Row → List Range → List Quantity
quantities P cuts bx =
    objective_quantity P ∷ (bound_quantities 0 bx
    ++ (map slack_quantity P.rows ++ (map slack_quantity P.urows ++ map slack_quantity cuts)))
