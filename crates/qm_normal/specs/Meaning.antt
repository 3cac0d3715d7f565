-- What a text asks of values of its variables, each given by its name.
use Rattle.std.specs.Prelude.{◌≡◌, ◌≢◌, ℕ, ◌*◌, IsTrue, ℤ, pos, ◌+ℤ◌, ◌*ℤ◌, unsigned_abs, List, All, Some, None, map}
use Rattle.qm_math.specs.Fraction.{Fraction, IsAtMost, IsSame}
use Rattle.qm_math.specs.Arithmetic.{product_of}
use Rattle.qm_math.specs.Over.{over}
use Rattle.qm_math.specs.Totals.{total_of}
use Rattle.qm_frac.specs.Arithmetic.{negated}
use Rattle.qm_model.specs.declared.game.Problem.{Problem}
use Rattle.qm_model.specs.declared.game.Sense.{Sense}
use Rattle.qm_model.specs.declared.game.Sense.TheVariants.{Max, Min}
use Rattle.qm_model.specs.Linear.{form}
use Rattle.qm_model.specs.Points.{AreWithinOver, HoldsOver}
use Rattle.qm_parse.specs.declared.ast.Ast.{Ast}
use Rattle.qm_parse.specs.declared.ast.AstRow.{AstRow}
use Rattle.qm_parse.specs.declared.ast.AstTerm.{AstTerm}
use Rattle.qm_parse.specs.Checks.{Has}
use Rattle.qm_parse.specs.declared.ast.Relation.{Relation}
use Rattle.qm_parse.specs.declared.ast.Relation.TheVariants.{Less, Greater, Equal}
use Rattle.qm_normal.specs.Ends.{lower_end, upper_end}
use Rattle.qm_normal.specs.Variables.{game_order, is_whole}

-- a constant, or a multiple of the value of a variable
abbrev pub term_value : (ℕ → Fraction) → AstTerm → Fraction
term_value value term = elim term.name [ None ↦ term.coef | Some name ↦ product_of term.coef (value name) ]

-- what the terms come to
abbrev pub written_value : (ℕ → Fraction) → List AstTerm → Fraction
written_value value terms = total_of (term_value value) terms

abbrev pub Compares : Relation → Fraction → Fraction → Type 0
Compares Less left right = IsAtMost left right
Compares Greater left right = IsAtMost right left
Compares Equal left right = IsSame left right

-- the row holds
abbrev pub IsMet : (ℕ → Fraction) → AstRow → Type 0
IsMet value row = Compares row.relation (written_value value row.terms) row.right

-- a row has multiples of variables alone
abbrev pub HasNoConstant : AstRow → Type 0
HasNoConstant row = All (λ term. term.name ≢ None) row.terms

-- the value lies between the exact bounds of the name
abbrev pub IsInBounds : Ast → (ℕ → Fraction) → ℕ → Type 0
IsInBounds ast value name = IsAtMost (lower_end ast name) (value name) × IsAtMost (value name) (upper_end ast name)

-- values of the variables meet what the text writes
pub record MeetsText (ast : Ast) (value : ℕ → Fraction) : Type 0 where
  pub bounds : All (λ named. IsInBounds ast value named.name) ast.order
  pub rows : All (IsMet value) ast.rows
  pub uncertain : All (IsMet value) ast.uncertain

-- the value of a name, by its numerator over a common denominator
abbrev pub value_over : ℕ → (ℕ → ℤ) → ℕ → Fraction
value_over den nums name = over den (nums name)

-- the numerators of the variables in game order
abbrev pub in_game_order : Ast → (ℕ → ℤ) → List ℤ
in_game_order ast nums = map (λ named. nums named.name) (game_order ast)

-- the numerators of whole variables are multiples of the denominator
abbrev pub AreWholeOver : ℕ → (ℕ → ℤ) → Ast → Type 0
AreWholeOver den nums ast = All (λ named. IsTrue (is_whole ast named.name) → (k : ℤ) × (nums named.name ≡ k *ℤ pos den)) ast.order

-- each name among the terms stands in ORDER
abbrev pub HasNamesInOrder : Ast → List AstTerm → Type 0
HasNamesInOrder ast terms = All (λ term. (name : ℕ) → term.name ≡ Some name → Has ast.order name) terms

-- what is to be maximised: the value, or its negative where the text minimises
abbrev pub maximised_value : Sense → Fraction → Fraction
maximised_value Max value = value
maximised_value Min value = negated value

-- the objective of a problem at numerators over a denominator
abbrev pub objective_over : Problem → ℕ → List ℤ → Fraction
objective_over P den values = record {
  num = form P.terms values +ℤ (P.constant *ℤ pos den);
  den = unsigned_abs P.scale * den;
}

-- Numerators of the variables, over a denominator, lie in the bounds of the problem and meet its rows and uncertainty rows.
pub record MeetsProblem (P : Problem) (den : ℕ) (values : List ℤ) : Type 0 where
  pub within : AreWithinOver den P.vars values
  pub rows : All (HoldsOver den values) P.rows
  pub urows : All (HoldsOver den values) P.urows
