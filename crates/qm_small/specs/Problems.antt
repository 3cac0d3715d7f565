-- The problem that a small text states.
use Rattle.std.specs.Prelude.{ℕ, suc, ℤ, pos, neg_ℤ, ◌+ℤ◌, Bool, true, List, [], ◌∷◌, length, map, filter, fold, if◌then◌else◌}
use Rattle.std.specs.List.{list_any}
use Rattle.std.specs.Ordering.{int_eq}
use Rattle.std.specs.Str.{bytes_eq}
use Rattle.qm_model.specs.declared.row.Term.{Term}
use Rattle.qm_model.specs.declared.row.Row.{Row}
use Rattle.qm_model.specs.declared.variable.Player.TheVariants.{Exists, All as Universal}
use Rattle.qm_model.specs.declared.variable.Var.{Var}
use Rattle.qm_model.specs.declared.game.Sense.TheVariants.{Max}
use Rattle.qm_model.specs.declared.game.Problem.{Problem}
use Rattle.qm_small.specs.Written.{Written, WrittenRow, WrittenTerm}

-- a term's factor, with its sign
abbrev pub signed_factor : WrittenTerm → ℤ
signed_factor term = if term.negative then neg_ℤ (pos term.factor) else pos term.factor

-- the sum of the signed factors of the terms with this name
abbrev pub total : List WrittenTerm → List ℕ → ℤ
total terms name = fold ◌+ℤ◌ (pos 0) (map signed_factor (filter (λ term. bytes_eq term.name name) terms))

-- the coefficients of the variables from a number on, but for zeros, as terms
abbrev pub nonzero_from : ℕ → List ℤ → List Term
nonzero_from number [] = []
nonzero_from number (k ∷ ks) =
    if int_eq k (pos 0) then nonzero_from (suc number) ks else record { var = number; coef = k } ∷ nonzero_from (suc number) ks

-- what the terms come to for each variable, in game order
abbrev pub terms_of : List (List ℕ) → List WrittenTerm → List Term
terms_of order terms = nonzero_from 0 (map (total terms) order)

abbrev pub row_of : List (List ℕ) → WrittenRow → Row
row_of order row = record { terms = terms_of order row.terms; right = row.right }

-- the name stands among the names
abbrev pub stands_in : List (List ℕ) → List ℕ → Bool
stands_in names name = list_any (bytes_eq name) names

-- a variable of the values 0 and 1, universal where its name stands among the universal ones
abbrev pub var_of : List (List ℕ) → List ℕ → Var
var_of universal name = record {
  name = name;
  player = if stands_in universal name then Universal else Exists;
  whole = true;
  low = pos 0;
  high = pos 1;
}

-- the variables and the rows of the text: the variables in the order of ORDER, the rows of both kinds in their own
abbrev pub problem_of : Written → Problem
problem_of written = record {
  sense = Max;
  vars = map (var_of written.universal) written.order;
  wholes = length written.order;
  rows = map (row_of written.order) written.rows;
  urows = map (row_of written.order) written.uncertain;
  terms = terms_of written.order written.objective;
  constant = pos 0;
  scale = pos 1;
}
