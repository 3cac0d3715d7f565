-- The names among the symbols of tokens are those of the list.
use Rattle.std.specs.Prelude.{codes}
use Rattle.std.specs.Str.{str_eq_ignore_ascii_case}
use Rattle.std.proofs.Common.{cond, ◌≡◌, ℕ, length, Bool, true, false, List, [], ◌∷◌, sym, subst}
use Rattle.std.proofs.lemmas.List.Elements.{All-cons, All-nil}
use Rattle.std.proofs.lemmas.Option.{slice_get_within}
use Rattle.qm_lex.specs.declared.token.Kind.{Kind}
use Rattle.qm_lex.specs.declared.token.Kind.TheVariants as kind
use Rattle.qm_lex.specs.declared.token.Token.{Token}
use Rattle.qm_parse.specs.declared.word.Symbol.{Symbol}
use Rattle.qm_parse.specs.declared.word.Word.{Word}
use Rattle.qm_parse.specs.declared.word.Word.TheVariants.{Infinite, Free}
use Rattle.qm_parse.specs.Known.{AreKnown, IsKnown}
use Rattle.qm_parse.specs.Symbols.{AreSymbols, IsWordOf, infinite_word}
use Rattle.qm_parse.proofs.KnownParts.{KnownSymbol}

infinite-known : (n : ℕ) (bytes : List ℕ) → IsKnown n (infinite_word bytes)
infinite-known n bytes =
    elim (str_eq_ignore_ascii_case bytes (codes "FREE")) as (λ b. IsKnown n (cond b Free Infinite)) [ true ↦ tt | false ↦ tt ]

known-as : (n : ℕ) (word said : Word) → word ≡ said → IsKnown n said → IsKnown n word
known-as n word said is known = subst (IsKnown n) (sym is) known

word-known : (names : List (List ℕ)) (bytes : List ℕ) (labels : Bool) (of : Kind) (word : Word) → IsWordOf names bytes labels of word → IsKnown (length names) word
word-known names bytes labels kind.Name word is = known-as _ word _ is.2 (slice_get_within names is.0 bytes is.1)
word-known names bytes labels kind.Number word is = known-as _ word _ is.2 tt
word-known names bytes labels kind.Plus word is = known-as _ word _ is tt
word-known names bytes labels kind.Minus word is = known-as _ word _ is tt
word-known names bytes labels kind.Less word is = known-as _ word _ is tt
word-known names bytes labels kind.Greater word is = known-as _ word _ is tt
word-known names bytes labels kind.Equal word is = known-as _ word _ is tt
word-known names bytes labels kind.Colon word is = known-as _ word _ is tt
word-known names bytes labels (kind.Keyword reserved) word is = known-as _ word _ is tt
word-known names bytes labels kind.Infinite word is = known-as _ word _ is (infinite-known (length names) bytes)

pub symbols-known : (text : List ℕ) (names : List (List ℕ)) (line : ℕ) (tokens : List Token) (symbols : List Symbol) → AreSymbols text names line tokens symbols → AreKnown (length names) symbols
symbols-known text names line [] [] are = All-nil (KnownSymbol (length names))
symbols-known text names line [] (symbol ∷ symbols) are = absurd are
symbols-known text names line (token ∷ tokens) [] are = absurd are
symbols-known text names line (token ∷ tokens) (symbol ∷ symbols) are =
    All-cons (KnownSymbol (length names)) symbol symbols (word-known names _ _ token.kind symbol.word are.0.word)
    (symbols-known text names symbol.place.line tokens symbols are.1)
