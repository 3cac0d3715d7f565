-- The numbers among the symbols of tokens are over positive denominators.
use Rattle.std.proofs.Common.{◌≡◌, cond, ℕ, ◌*◌, ◌^◌, ◌<◌, Bool, true, false, List, [], ◌∷◌, Option, Some, None, sym, subst}
use Rattle.std.specs.Prelude.{IfSome, codes}
use Rattle.std.specs.Str.{str_eq_ignore_ascii_case}
use Rattle.std.proofs.lemmas.List.Elements.{All-cons, All-nil}
use Rattle.qm_math.specs.Fraction.{Fraction, HasPositiveDen}
use Rattle.qm_frac.proofs.Terms.{quotient_pos}
use Rattle.qm_frac.specs.Lowest.{lowest_parts}
use Rattle.qm_text.proofs.Powers.{ten_some}
use Rattle.qm_text.specs.Decimals.{Decimal, decimal_value, with_tens}
use Rattle.qm_lex.specs.declared.token.Kind.{Kind}
use Rattle.qm_lex.specs.declared.token.Kind.TheVariants as kind
use Rattle.qm_lex.specs.declared.token.Token.{Token}
use Rattle.qm_parse.specs.declared.word.Symbol.{Symbol}
use Rattle.qm_parse.specs.declared.word.Word.{Word}
use Rattle.qm_parse.specs.declared.word.Word.TheVariants.{Infinite, Free}
use Rattle.qm_parse.specs.Symbols.{AreSymbols, IsValueOf, IsWordOf, infinite_word}
use Rattle.qm_normal.proofs.ProperParts.{AreProper, IsProperSymbol, IsProperWord}

tens_den : (n above below : ℕ) → 0 < (with_tens n above below).den
unfolding lowest_parts
tens_den n above below = quotient_pos (n * 10 ^ above) (10 ^ below) (ten_some below)

decimal_den : (d : Decimal) → HasPositiveDen (decimal_value d)
decimal_den d = tens_den _ _ _

value_proper : (bytes : List ℕ) (number : Option Fraction) → IsValueOf bytes number → IfSome number HasPositiveDen
value_proper bytes None is = tt
value_proper bytes (Some value) is = subst HasPositiveDen (sym is.3) (decimal_den is.0)

infinite_proper : (bytes : List ℕ) → IsProperWord (infinite_word bytes)
infinite_proper bytes = elim (str_eq_ignore_ascii_case bytes (codes "FREE")) as (λ b. IsProperWord (cond b Free Infinite)) [ true ↦ tt | false ↦ tt ]

proper_as : (word said : Word) → word ≡ said → IsProperWord said → IsProperWord word
proper_as word said is proper = subst IsProperWord (sym is) proper

word_proper : (names : List (List ℕ)) (bytes : List ℕ) (labels : Bool) (of : Kind) (word : Word) → IsWordOf names bytes labels of word → IsProperWord word
word_proper names bytes labels kind.Name word is = proper_as word _ is.2 tt
word_proper names bytes labels kind.Number word is = proper_as word _ is.2 (value_proper bytes is.0 is.1)
word_proper names bytes labels kind.Plus word is = proper_as word _ is tt
word_proper names bytes labels kind.Minus word is = proper_as word _ is tt
word_proper names bytes labels kind.Less word is = proper_as word _ is tt
word_proper names bytes labels kind.Greater word is = proper_as word _ is tt
word_proper names bytes labels kind.Equal word is = proper_as word _ is tt
word_proper names bytes labels kind.Colon word is = proper_as word _ is tt
word_proper names bytes labels (kind.Keyword reserved) word is = proper_as word _ is tt
word_proper names bytes labels kind.Infinite word is = proper_as word _ is (infinite_proper bytes)

pub symbols_proper : (text : List ℕ) (names : List (List ℕ)) (line : ℕ) (tokens : List Token) (symbols : List Symbol) → AreSymbols text names line tokens symbols → AreProper symbols
symbols_proper text names line [] [] are = All-nil IsProperSymbol
symbols_proper text names line [] (symbol ∷ symbols) are = absurd are
symbols_proper text names line (token ∷ tokens) [] are = absurd are
symbols_proper text names line (token ∷ tokens) (symbol ∷ symbols) are =
    All-cons IsProperSymbol symbol symbols (word_proper names _ _ token.kind symbol.word are.0.word) (symbols_proper text names symbol.place.line tokens symbols are.1)
