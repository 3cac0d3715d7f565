-- The problem that the bytes of a text state.
use Rattle.std.specs.Prelude.{◌≡◌, ℕ, List, Ok}
use Rattle.qm_lex.specs.declared.token.Token.{Token}
use Rattle.qm_lex.specs.Texts.{AreTokens}
use Rattle.qm_model.specs.declared.game.Problem.{Problem}
use Rattle.qm_parse.specs.declared.ast.Ast.{Ast}
use Rattle.qm_parse.specs.Parsing.{IsParsed}
use Rattle.qm_normal.specs.Normal.{normal_form}

-- the text is cut into tokens, they have a syntax tree that uses its names right, and the problem is that tree's normal form
pub record States (text : List ℕ) (P : Problem) : Type 0 where
  pub tokens : List Token
  pub cut : AreTokens text tokens
  pub ast : Ast
  pub parsed : IsParsed text tokens (Ok ast)
  pub normal : normal_form ast ≡ Ok P
