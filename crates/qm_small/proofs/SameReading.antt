-- A small text is read by the whole grammar: its tokens, its symbols and its tree.
use Rattle.std.proofs.Common.{ℕ, ◌≤◌, List, [], length, map, Ok, refl, ap, subst, arith}
use Rattle.std.proofs.lemmas.List.{length-map}
use Rattle.std.proofs.lemmas.List.Elements.{All-weaker}
use Rattle.qm_lex.specs.declared.token.Token.{Token}
use Rattle.qm_lex.specs.Texts.{AreTokens}
use Rattle.qm_parse.specs.declared.ast.Ast.{Ast}
use Rattle.qm_parse.specs.Parsing.{IsParsed}
use Rattle.qm_parse.specs.Symbols.{names_of}
use Rattle.qm_small.specs.Written.{Word, Written}
use Rattle.qm_small.specs.Grammar.{SmallText, SpellsText}
use Rattle.qm_small.specs.Names.{NamesFit}
use Rattle.qm_small.specs.Words.{words}
use Rattle.qm_small.proofs.Numbering.{are_held}
use Rattle.qm_small.proofs.Pieces.{cut, few_pieces, word_of}
use Rattle.qm_small.proofs.PieceSymbols.{are_meant, are_symbols, symbols_from}
use Rattle.qm_small.proofs.PieceTokens.{reaches, tokens_from, whole_text}
use Rattle.qm_small.proofs.SameNames.{no_fault}
use Rattle.qm_small.proofs.SameTexts.{HasFew, HasFewTerms, IsTreeOf, few_terms, has_tree}
use Rattle.qm_small.proofs.SpelledWords.{spelled_tokens}

few_words : (text : List ℕ) → length (words text) ≤ length text
few_words text =
    let pieces = cut text in
    omega (arith, few_pieces pieces.pieces pieces.last, ap (length {A = ℕ}) pieces.text_is, ap (length {A = Word}) pieces.words_are, length-map pieces.pieces word_of)

-- the tokens of a text, and their tree, which holds what is written
pub record IsRead (text : List ℕ) (written : Written) : Type 0 where
  pub tokens : List Token
  pub cut : AreTokens text tokens
  pub ast : Ast
  pub parsed : IsParsed text tokens (Ok ast)
  pub tree : IsTreeOf (names_of text tokens) written ast

words_read : (text : List ℕ) (written : Written) → SmallText written (words text) [] → NamesFit written → IsRead text written
words_read text written spelled right =
    let pieces = cut text in
    let ps = pieces.pieces in
    let on = whole_text text ps pieces.last pieces.text_is in
    let small : SmallText written (map word_of ps) [] = subst (λ (ws : List Word). SmallText written ws []) pieces.words_are spelled in
    let tokens = tokens_from 0 ps in
    let names = names_of text tokens in
    let token_words = spelled_tokens written (map word_of ps) small in
    let held = are_held text [] tokens in
    let symbols = symbols_from text names 0 0 ps in
    let meant = are_meant text names 0 0 ps pieces.last on held (omega arith) in
    let found = has_tree names written (map word_of ps) symbols small meant in
    record {
      tokens = tokens;
      cut = reaches text 0 ps pieces.last on pieces.parts token_words;
      ast = found.ast;
      parsed = record {
        symbols = symbols;
        spelled = are_symbols text names 0 0 ps pieces.last on held token_words;
        answered = (found.ast, found.text, (refl, no_fault names written found.ast found.tree right));
      };
      tree = found.tree;
    }

pub text_read : (text : List ℕ) (written : Written) → SpellsText text written → NamesFit written → IsRead text written
unfolding SpellsText
text_read text written spelled right = words_read text written spelled right

pub text_few : (text : List ℕ) (written : Written) (n : ℕ) → length text ≤ n → SpellsText text written → HasFew n written
unfolding SpellsText
text_few text written n short spelled =
    let counts = few_terms written (words text) spelled in
    let few = few_words text in
    let weaker = All-weaker (HasFewTerms (length (words text))) (HasFewTerms n) (λ row below. omega arith) in
    record {
      objective = omega (arith, counts.objective);
      rows = weaker written.rows counts.rows;
      uncertain = weaker written.uncertain counts.uncertain;
    }
