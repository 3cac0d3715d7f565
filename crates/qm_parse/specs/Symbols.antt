-- The symbols of tokens, and the names that they number.
use Rattle.std.specs.Prelude.{◌≡◌, ℕ, ◌-◌, Bool, true, false, not, List, [], ◌∷◌, ◌++◌, ◌==◌, All, take, drop, slice_get, codes, Option, Some, None, if◌then◌else◌}
use Rattle.std.specs.Str.{str_eq_ignore_ascii_case}
use Rattle.qm_math.specs.Fraction.{Fraction}
use Rattle.qm_text.specs.Decimals.{Decimal, SpellsDecimal, Stays, decimal_value}
use Rattle.qm_lex.specs.declared.token.Kind.{Kind}
use Rattle.qm_lex.specs.declared.token.Kind.TheVariants as kind
use Rattle.qm_lex.specs.declared.token.Token.{Token}
use Rattle.qm_lex.specs.Numbers.{IsNumber}
use Rattle.qm_lex.specs.Places.{place_of}
use Rattle.qm_parse.specs.declared.ast.Relation.TheVariants.{Less, Greater, Equal}
use Rattle.qm_parse.specs.declared.word.Symbol.{Symbol}
use Rattle.qm_parse.specs.declared.word.Word.{Word}
use Rattle.qm_parse.specs.declared.word.Word.TheVariants.{Name, Number, Sign, Related, Colon, Keyword, Infinite, Free}
use Rattle.qm_parse.specs.NameTables.{stands_in}

-- where the kind is that of a number, the bytes spell one
abbrev pub IsNumberOf : Kind → List ℕ → Type 0
IsNumberOf of bytes = of ≡ kind.Number → IsNumber bytes

-- the bytes that a token takes
abbrev pub bytes_of : List ℕ → Token → List ℕ
bytes_of text token = take (token.end - token.start) (drop token.start text)

-- a name that is new is put last
abbrev pub with_name : List (List ℕ) → List ℕ → List (List ℕ)
with_name names name = if stands_in names name then names else names ++ name ∷ []

-- the names, and that of a token where it is one
unfoldable pub with_token : List (List ℕ) → Kind → List ℕ → List (List ℕ)
with_token names kind.Name bytes = with_name names bytes
with_token names of bytes = names

-- the names, and those of tokens that follow
unfoldable pub names_behind : List ℕ → List (List ℕ) → List Token → List (List ℕ)
names_behind text names [] = names
names_behind text names (token ∷ tokens) = names_behind text (with_token names token.kind (bytes_of text token)) tokens

-- the names of a text, each once, in the order in which they first stand there
abbrev pub names_of : List ℕ → List Token → List (List ℕ)
names_of text tokens = names_behind text [] tokens

-- the value of a number, where it stays a fraction of 128 bits
abbrev pub IsValueOf : List ℕ → Option Fraction → Type 0
IsValueOf bytes None = (d : Decimal) × SpellsDecimal bytes d × ¬ Stays d
IsValueOf bytes (Some value) = (d : Decimal) × SpellsDecimal bytes d × Stays d × (value ≡ decimal_value d)

-- FREE in any case, or INF or INFINITY
abbrev pub infinite_word : List ℕ → Word
infinite_word bytes = if str_eq_ignore_ascii_case bytes (codes "FREE") then Free else Infinite

-- the kind is a colon
unfoldable pub is_colon : Kind → Bool
is_colon kind.Colon = true
is_colon of = false

-- a colon is next
unfoldable pub is_before_colon : List Token → Bool
is_before_colon [] = false
is_before_colon (token ∷ tokens) = is_colon token.kind

-- what a token of this kind and of these bytes says, given whether a colon is next
abbrev pub IsWordOf : List (List ℕ) → List ℕ → Bool → Kind → Word → Type 0
IsWordOf names bytes labels kind.Name word = (n : ℕ) × (slice_get names n ≡ Some bytes) × (word ≡ Name n labels)
IsWordOf names bytes labels kind.Number word = (number : Option Fraction) × IsValueOf bytes number × (word ≡ Number number)
IsWordOf names bytes labels kind.Plus word = word ≡ Sign false
IsWordOf names bytes labels kind.Minus word = word ≡ Sign true
IsWordOf names bytes labels kind.Less word = word ≡ Related Less
IsWordOf names bytes labels kind.Greater word = word ≡ Related Greater
IsWordOf names bytes labels kind.Equal word = word ≡ Related Equal
IsWordOf names bytes labels kind.Colon word = word ≡ Colon
IsWordOf names bytes labels (kind.Keyword reserved) word = word ≡ Keyword reserved
IsWordOf names bytes labels kind.Infinite word = word ≡ infinite_word bytes

-- the symbol of a token, given the line of the token before it and the tokens behind it
pub record IsSymbolOf (text : List ℕ) (names : List (List ℕ)) (line : ℕ) (token : Token) (tokens : List Token) (symbol : Symbol) : Type 0 where
  pub word : IsWordOf names (bytes_of text token) (is_before_colon tokens) token.kind symbol.word
  pub place : symbol.place ≡ place_of text token.start
  pub line_begins : symbol.begins_line ≡ not (symbol.place.line == line)

-- one symbol for each token; the line is that of the token before, or 0
abbrev pub AreSymbols : List ℕ → List (List ℕ) → ℕ → List Token → List Symbol → Type 0
AreSymbols text names line [] [] = Unit
AreSymbols text names line [] (symbol ∷ symbols) = ⊥
AreSymbols text names line (token ∷ tokens) [] = ⊥
AreSymbols text names line (token ∷ tokens) (symbol ∷ symbols) =
    IsSymbolOf text names line token tokens symbol × AreSymbols text names symbol.place.line tokens symbols

-- each token of the kind of numbers spells one
abbrev pub AreNumbers : List ℕ → List Token → Type 0
AreNumbers text tokens = All (λ token. IsNumberOf token.kind (bytes_of text token)) tokens
