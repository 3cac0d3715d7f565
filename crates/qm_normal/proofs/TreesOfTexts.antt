-- The tree of a text is in order.
use Rattle.std.proofs.Common.{◌≡◌, ℕ, ◌+◌, ◌≤◌, ◌<◌, ◌^◌, List, [], ◌∷◌, length, refl, sym, subst, None, Ok, arith}
use Rattle.qm_lex.specs.declared.token.Token.{Token}
use Rattle.qm_lex.specs.Texts.{AreInOrder, AreTokens}
use Rattle.qm_parse.specs.declared.ast.Ast.{Ast}
use Rattle.qm_parse.specs.declared.word.Symbol.{Symbol}
use Rattle.qm_parse.specs.Checks.{name_fault}
use Rattle.qm_parse.specs.Known.{HasNumbersBelow}
use Rattle.qm_parse.specs.Parsing.{IsParsed}
use Rattle.qm_parse.specs.Symbols.{AreSymbols, names_of}
use Rattle.qm_parse.specs.Texts.{IsText}
use Rattle.qm_lex.proofs.Every.{in_order}
use Rattle.qm_parse.proofs.KnownSymbols.{symbols-known}
use Rattle.qm_parse.proofs.KnownTexts.{below-IsText}
use Rattle.qm_parse.proofs.SymbolColons.{colons-known}
use Rattle.qm_normal.specs.Trees.{IsTreeInOrder}
use Rattle.qm_normal.proofs.PlainRows.{text_plain}
use Rattle.qm_normal.proofs.ProperSymbols.{symbols_proper}
use Rattle.qm_normal.proofs.ProperTexts.{text_proper}
use Rattle.qm_parse.proofs.RowCounts.{text_few}

-- each token takes a byte
tokens_few : (from to : ℕ) (tokens : List Token) → AreInOrder from tokens to → from + length tokens ≤ to
tokens_few from to [] is = omega arith
tokens_few from to (token ∷ tokens) is =
    let one = is.0 in
    let two = is.1 in
    let others = tokens_few token.end to tokens is.2 in
    omega arith

symbols_few : (text : List ℕ) (names : List (List ℕ)) (line : ℕ) (tokens : List Token) (symbols : List Symbol) → AreSymbols text names line tokens symbols → length symbols ≡ length tokens
symbols_few text names line [] [] are = refl
symbols_few text names line [] (symbol ∷ symbols) are = absurd are
symbols_few text names line (token ∷ tokens) [] are = absurd are
symbols_few text names line (token ∷ tokens) (symbol ∷ symbols) are =
    let others = symbols_few text names symbol.place.line tokens symbols are.1 in
    omega arith

tree_of_text : (text : List ℕ) (names : List (List ℕ)) (tokens : List Token) (symbols : List Symbol) (ast : Ast)
    → length text < 2 ^ 31 → AreInOrder 0 tokens (length text) → AreSymbols text names 0 tokens symbols → IsText names symbols ast → name_fault ast ≡ None → IsTreeInOrder ast
tree_of_text text names tokens symbols ast short ordered are is right =
    let few = text_few names symbols ast (colons-known text names 0 tokens symbols are) is in
    let rows = few.0 in
    let uncertain = few.1 in
    let bytes = tokens_few 0 (length text) tokens ordered in
    let same = symbols_few text names 0 tokens symbols are in
    let known = below-IsText names (length names) symbols ast (symbols-known text names 0 tokens symbols are) is in
    record {
      names = right;
      known = subst (λ (all : List (List ℕ)). HasNumbersBelow (length all) ast) (sym (text_plain names symbols ast is).names) known;
      proper = text_proper names symbols ast (symbols_proper text names 0 tokens symbols are) is;
      rows = omega arith;
      uncertain = omega arith;
    }

-- what a parsed text is, besides its tree being in order
pub record TextParts (text : List ℕ) (tokens : List Token) (ast : Ast) : Type 0 where
  pub symbols : List Symbol
  pub spelled : AreSymbols text (names_of text tokens) 0 tokens symbols
  pub says : IsText (names_of text tokens) symbols ast
  pub right : name_fault ast ≡ None

pub text_parts : (text : List ℕ) (tokens : List Token) (ast : Ast) → IsParsed text tokens (Ok ast) → TextParts text tokens ast
text_parts text tokens ast parsed =
    let tree = parsed.answered.0 in
    let judged = parsed.answered.2 in
    let P : Ast → Type 0 = λ (a : Ast). IsText (names_of text tokens) parsed.symbols a in
    let R : Ast → Type 0 = λ (a : Ast). name_fault a ≡ None in
    record {
      symbols = parsed.symbols;
      spelled = parsed.spelled;
      says = subst P (sym judged.0) parsed.answered.1;
      right = subst R (sym judged.0) judged.1;
    }

pub parsed_in_order : (text : List ℕ) (tokens : List Token) (ast : Ast) → length text < 2 ^ 31 → AreTokens text tokens → IsParsed text tokens (Ok ast) → IsTreeInOrder ast
parsed_in_order text tokens ast short are parsed =
    let parts = text_parts text tokens ast parsed in
    tree_of_text text (names_of text tokens) tokens parts.symbols ast short (in_order text tokens are) parts.spelled parts.says parts.right
