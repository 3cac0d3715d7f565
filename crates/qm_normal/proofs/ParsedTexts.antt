-- What the normal form of a parsed text means.
use Rattle.std.proofs.Common.{◌≡◌, ◌↔◌, ℕ, ◌<◌, List, ℤ, Ok}
use Rattle.qm_math.specs.Fraction.{IsSame}
use Rattle.qm_model.specs.declared.game.Problem.{Problem}
use Rattle.qm_lex.specs.declared.token.Token.{Token}
use Rattle.qm_parse.specs.declared.ast.Ast.{Ast}
use Rattle.qm_parse.specs.Checks.{NamesRight}
use Rattle.qm_parse.specs.Parsing.{IsParsed}
use Rattle.qm_parse.specs.Symbols.{names_of}
use Rattle.qm_parse.proofs.NameLaws.{NamesRight-from_None}
use Rattle.qm_normal.specs.Meaning.{AreWholeOver, MeetsProblem, MeetsText, in_game_order, maximised_value, objective_over, value_over, written_value}
use Rattle.qm_normal.specs.Normal.{normal_form}
use Rattle.qm_normal.specs.Numbers.{HasProperNumbers}
use Rattle.qm_normal.proofs.ObjectiveWritten.{objective_means}
use Rattle.qm_normal.proofs.PlainRows.{IsPlainTree, text_plain}
use Rattle.qm_normal.proofs.ProperSymbols.{symbols_proper}
use Rattle.qm_normal.proofs.ProperTexts.{text_proper}
use Rattle.qm_normal.proofs.TextWritten.{ordered_names, problem_means}
use Rattle.qm_normal.proofs.TreesOfTexts.{text_parts}

record TreeParts (names : List (List ℕ)) (ast : Ast) : Type 0 where
  right : NamesRight ast
  proper : HasProperNumbers ast
  plain : IsPlainTree names ast

tree_parts : (text : List ℕ) (tokens : List Token) (ast : Ast) → IsParsed text tokens (Ok ast) → TreeParts (names_of text tokens) ast
tree_parts text tokens ast parsed =
    let parts = text_parts text tokens ast parsed in
    let names = names_of text tokens in
    record {
      right = NamesRight-from_None ast parts.right;
      proper = text_proper names parts.symbols ast (symbols_proper text names 0 tokens parts.symbols parts.spelled) parts.says;
      plain = text_plain names parts.symbols ast parts.says;
    }

pub parsed_proper : (text : List ℕ) (tokens : List Token) (ast : Ast) → IsParsed text tokens (Ok ast) → HasProperNumbers ast
parsed_proper text tokens ast parsed = (tree_parts text tokens ast parsed).proper

pub parsed_problem : (text : List ℕ) (tokens : List Token) (ast : Ast) (P : Problem) (den : ℕ) (nums : ℕ → ℤ)
    → IsParsed text tokens (Ok ast) → normal_form ast ≡ Ok P → 0 < den → AreWholeOver den nums ast → MeetsProblem P den (in_game_order ast nums) ↔ MeetsText ast (value_over den nums)
parsed_problem text tokens ast P den nums parsed form some whole =
    let parts = tree_parts text tokens ast parsed in
    problem_means ast P den nums parts.right parts.proper parts.plain.rows parts.plain.uncertain form some whole

pub parsed_objective : (text : List ℕ) (tokens : List Token) (ast : Ast) (P : Problem) (den : ℕ) (nums : ℕ → ℤ)
    → IsParsed text tokens (Ok ast) → normal_form ast ≡ Ok P → 0 < den
    → IsSame (objective_over P den (in_game_order ast nums)) (maximised_value ast.sense (written_value (value_over den nums) ast.objective))
parsed_objective text tokens ast P den nums parsed form some =
    let parts = tree_parts text tokens ast parsed in
    objective_means ast P den nums parts.right parts.proper (ordered_names ast parts.right).objective some form
