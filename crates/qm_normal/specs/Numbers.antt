-- Trees whose numbers are over positive denominators, as those are that a text gives.
use Rattle.std.specs.Prelude.{All, IfSome}
use Rattle.qm_math.specs.Fraction.{HasPositiveDen}
use Rattle.qm_parse.specs.declared.ast.Ast.{Ast}
use Rattle.qm_parse.specs.declared.ast.AstRow.{AstRow}
use Rattle.qm_parse.specs.declared.ast.AstTerm.{AstTerm}

abbrev pub IsProperTerm : AstTerm → Type 0
IsProperTerm term = HasPositiveDen term.coef

pub record IsProperRow (row : AstRow) : Type 0 where
  pub terms : All IsProperTerm row.terms
  pub right : HasPositiveDen row.right

-- each number of the tree is
pub record HasProperNumbers (ast : Ast) : Type 0 where
  pub objective : All IsProperTerm ast.objective
  pub rows : All IsProperRow ast.rows
  pub uncertain : All IsProperRow ast.uncertain
  pub bounds : All (λ bound. IfSome bound.value HasPositiveDen) ast.bounds
