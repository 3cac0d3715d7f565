-- Tokens have one list of symbols.
use Rattle.std.proofs.Common.{◌≡◌, ◌≢◌, ℕ, ◌<◌, Bool, true, false, not, List, [], ◌∷◌, ◌++◌, ◌==◌, Option, Some, None, cond, get_or, refl, sym, ap, subst, ◌∙◌, arith}
use Rattle.std.specs.Prelude.{slice_get}
use Rattle.std.proofs.lemmas.Bool.{false≢true}
use Rattle.std.proofs.lemmas.List.Folds.{list_any_at}
use Rattle.std.proofs.lemmas.List.Quantifiers.{all_pairs_push}
use Rattle.std.proofs.lemmas.Option.{get_or_from_slice_get, slice_get_within}
use Rattle.std.proofs.lemmas.Slice.Eq.{bytes_eq-Decides}
use Rattle.std.specs.Str.{bytes_eq}
use Rattle.qm_math.specs.Fraction.{Fraction}
use Rattle.qm_text.specs.Decimals.{Decimal, SpellsDecimal, Stays, decimal_value}
use Rattle.qm_lex.specs.declared.place.Place.{Place}
use Rattle.qm_lex.specs.declared.token.Kind.{Kind}
use Rattle.qm_lex.specs.declared.token.Kind.TheVariants as kind
use Rattle.qm_lex.specs.declared.token.Token.{Token}
use Rattle.qm_parse.specs.declared.word.Symbol.{Symbol}
use Rattle.qm_parse.specs.declared.word.Word.{Word}
use Rattle.qm_parse.specs.declared.word.Word.TheVariants.{Name, Number}
use Rattle.qm_parse.specs.NameTables.{AreDistinct, stands_in}
use Rattle.qm_parse.specs.Symbols.{AreSymbols, IsSymbolOf, IsValueOf, IsWordOf, bytes_of, is_before_colon, names_behind, names_of, with_token}
use Rattle.qm_parse.proofs.OnceOnly.{AllPairs-nil}

-- a word spells one decimal
abbrev pub OneDecimal : Type 0
OneDecimal = (word : List ℕ) (d e : Decimal) → SpellsDecimal word d → SpellsDecimal word e → d ≡ e

value-once : OneDecimal → (bytes : List ℕ) (one other : Option Fraction) → IsValueOf bytes one → IsValueOf bytes other → one ≡ other
value-once law bytes None None is so = refl
value-once law bytes None (Some value) is so = absurd (is.2 (subst Stays (law bytes so.0 is.0 so.1 is.1) so.2))
value-once law bytes (Some value) None is so = absurd (so.2 (subst Stays (law bytes is.0 so.0 is.1 so.1) is.2))
value-once law bytes (Some value) (Some more) is so = ap (λ x. Some x) (is.3 ∙ ap decimal_value (law bytes is.0 so.0 is.1 so.1) ∙ sym so.3)

not_before : (names : List (List ℕ)) → AreDistinct names → (i j : ℕ) (name : List ℕ) → slice_get names i ≡ Some name → slice_get names j ≡ Some name → ¬ (i < j)
not_before names distinct i j name one other before =
    distinct i j name before (slice_get_within names j name other) (get_or_from_slice_get names i name name one ∙ sym (get_or_from_slice_get names j name name other))

number-once : (names : List (List ℕ)) → AreDistinct names → (i j : ℕ) (name : List ℕ) → slice_get names i ≡ Some name → slice_get names j ≡ Some name → i ≡ j
number-once names distinct i j name one other =
    let not_less : ¬ (i < j) = not_before names distinct i j name one other in
    let not_more : ¬ (j < i) = not_before names distinct j i name other one in
    omega arith

word-once : OneDecimal → (names : List (List ℕ)) (bytes : List ℕ) (labels : Bool) (of : Kind) (one other : Word) → AreDistinct names
    → IsWordOf names bytes labels of one → IsWordOf names bytes labels of other → one ≡ other
word-once law names bytes labels kind.Name one other distinct is so = is.2 ∙ ap (λ n. Name n labels) (number-once names distinct is.0 so.0 bytes is.1 so.1) ∙ sym so.2
word-once law names bytes labels kind.Number one other distinct is so = is.2 ∙ ap (λ n. Number n) (value-once law bytes is.0 so.0 is.1 so.1) ∙ sym so.2
word-once law names bytes labels kind.Plus one other distinct is so = is ∙ sym so
word-once law names bytes labels kind.Minus one other distinct is so = is ∙ sym so
word-once law names bytes labels kind.Less one other distinct is so = is ∙ sym so
word-once law names bytes labels kind.Greater one other distinct is so = is ∙ sym so
word-once law names bytes labels kind.Equal one other distinct is so = is ∙ sym so
word-once law names bytes labels kind.Colon one other distinct is so = is ∙ sym so
word-once law names bytes labels (kind.Keyword reserved) one other distinct is so = is ∙ sym so
word-once law names bytes labels kind.Infinite one other distinct is so = is ∙ sym so

abbrev symbol_of : Word → Place → Bool → Symbol
symbol_of word place begins = record { word = word; place = place; begins_line = begins }

symbol-same : (one other : Symbol) → one.word ≡ other.word → one.place ≡ other.place → one.begins_line ≡ other.begins_line → one ≡ other
symbol-same one other words places lines =
    ap (λ w. symbol_of w one.place one.begins_line) words ∙ ap (λ p. symbol_of other.word p one.begins_line) places ∙ ap (λ b. symbol_of other.word other.place b) lines

symbol-once : OneDecimal → (text : List ℕ) (names : List (List ℕ)) (line : ℕ) (token : Token) (tokens : List Token) (one other : Symbol) → AreDistinct names
    → IsSymbolOf text names line token tokens one → IsSymbolOf text names line token tokens other → one ≡ other
symbol-once law text names line token tokens one other distinct is so =
    let places : one.place ≡ other.place = is.place ∙ sym so.place in
    symbol-same one other (word-once law names (bytes_of text token) (is_before_colon tokens) token.kind one.word other.word distinct is.word so.word)
    places (is.line_begins ∙ ap (λ (p : Place). not (p.line == line)) places ∙ sym so.line_begins)

pub symbols-once : OneDecimal → (text : List ℕ) (names : List (List ℕ)) (line : ℕ) (tokens : List Token) (one other : List Symbol) → AreDistinct names
    → AreSymbols text names line tokens one → AreSymbols text names line tokens other → one ≡ other
symbols-once law text names line [] [] [] distinct is so = refl
symbols-once law text names line [] [] (symbol ∷ symbols) distinct is so = absurd so
symbols-once law text names line [] (symbol ∷ symbols) other distinct is so = absurd is
symbols-once law text names line (token ∷ tokens) [] other distinct is so = absurd is
symbols-once law text names line (token ∷ tokens) (symbol ∷ symbols) [] distinct is so = absurd so
symbols-once law text names line (token ∷ tokens) (symbol ∷ symbols) (first ∷ others) distinct is so =
    let same : symbol ≡ first = symbol-once law text names line token tokens symbol first distinct is.0 so.0 in
    let rest : symbols ≡ others = symbols-once law text names symbol.place.line tokens symbols others distinct is.1 (subst (λ (x : Symbol). AreSymbols text names x.place.line tokens others) (sym same) so.1) in
    ap (λ x. x ∷ symbols) same ∙ ap (λ xs. first ∷ xs) rest

-- a name that doesn't stand among names is another than each
pub distinct-more : (names : List (List ℕ)) (name : List ℕ) (b : Bool) → stands_in names name ≡ b → AreDistinct names → AreDistinct (cond b names (names ++ name ∷ []))
distinct-more names name true stands distinct = distinct
distinct-more names name false stands distinct =
    all_pairs_push (λ one other. one ≢ other) names name distinct
    (λ k d inside same. false≢true (sym stands ∙ list_any_at (bytes_eq name) names k d inside ((bytes_eq-Decides name (get_or names k d)).1 (sym same))))

distinct-with_token : (names : List (List ℕ)) (of : Kind) (bytes : List ℕ) → AreDistinct names → AreDistinct (with_token names of bytes)
unfolding with_token
distinct-with_token names kind.Name bytes distinct = distinct-more names bytes (stands_in names bytes) refl distinct
distinct-with_token names of bytes distinct = distinct

distinct-names_behind : (text : List ℕ) (names : List (List ℕ)) (tokens : List Token) → AreDistinct names → AreDistinct (names_behind text names tokens)
unfolding names_behind
distinct-names_behind text names [] distinct = distinct
distinct-names_behind text names (token ∷ tokens) distinct =
    distinct-names_behind text (with_token names token.kind (bytes_of text token)) tokens (distinct-with_token names token.kind (bytes_of text token) distinct)

-- no name of a text is numbered twice
pub distinct-names_of : (text : List ℕ) (tokens : List Token) → AreDistinct (names_of text tokens)
distinct-names_of text tokens = distinct-names_behind text [] tokens (AllPairs-nil (λ one other. one ≢ other))
