-- A text states one problem at most.
use Rattle.std.proofs.Common.{◌≡◌, ◌≢◌, ℕ, List, Result, Ok, Err, subst}
use Rattle.qm_lex.specs.declared.token.Token.{Token}
use Rattle.qm_lex.specs.Texts.{AreTokens}
use Rattle.qm_lex.proofs.Reached.{one_list}
use Rattle.qm_model.specs.declared.game.Problem.{Problem}
use Rattle.qm_parse.specs.declared.ast.Ast.{Ast}
use Rattle.qm_parse.specs.declared.fault.ParseFault.{ParseFault}
use Rattle.qm_parse.specs.declared.fault.ParseFault.TheVariants.{Memory}
use Rattle.qm_parse.specs.Parsing.{IsParsed}
use Rattle.qm_parse.proofs.OneAnswer.{answers-same}
use Rattle.qm_parse.proofs.OneSymbols.{OneDecimal}
use Rattle.qm_normal.specs.Stated.{States}

-- whatever the tokens of a text are found to be, they have one answer, unless memory ran out
pub one_reading : OneDecimal → (text : List ℕ) (tokens others : List Token) (one other : Result Ast ParseFault)
    → AreTokens text tokens → AreTokens text others → IsParsed text tokens one → IsParsed text others other
    → one ≢ Err Memory → other ≢ Err Memory → one ≡ other
one_reading law text tokens others one other cut also parsed read told known =
    let same : others ≡ tokens = one_list text others tokens also cut in
    answers-same law text tokens one other parsed (subst (λ xs. IsParsed text xs other) same read) told known

-- a tree isn't want of memory
pub tree_told : (ast : Ast) → Ok ast ≢ Err Memory
tree_told ast same = cc

-- the trees of a text that states a problem are one
pub one_tree : OneDecimal → (text : List ℕ) (tokens : List Token) (ast : Ast) (P : Problem) (stated : States text P) → AreTokens text tokens → IsParsed text tokens (Ok ast) → stated.ast ≡ ast
one_tree law text tokens ast P stated cut parsed =
    let same : Ok stated.ast ≡ Ok ast = one_reading law text stated.tokens tokens (Ok stated.ast) (Ok ast) stated.cut cut stated.parsed parsed (tree_told stated.ast) (tree_told ast) in
    cc

pub one_problem : OneDecimal → (text : List ℕ) (P Q : Problem) → States text P → States text Q → P ≡ Q
one_problem law text P Q one other =
    let same : one.ast ≡ other.ast = one_tree law text other.tokens other.ast P one other.cut other.parsed in
    let form = one.normal in
    let also = other.normal in
    cc
