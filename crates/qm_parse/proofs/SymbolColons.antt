-- The names among the symbols of tokens know whether a colon follows.
use Rattle.std.specs.Prelude.{codes, ◌≢◌}
use Rattle.std.specs.Str.{str_eq_ignore_ascii_case}
use Rattle.std.proofs.lemmas.Bool.{false≢true}
use Rattle.std.proofs.Common.{cond, ◌≡◌, ℕ, Bool, true, false, List, [], ◌∷◌, ◌⊎◌, inl, inr, refl, sym, ap, subst, ◌∙◌}
use Rattle.qm_lex.specs.declared.token.Kind.{Kind}
use Rattle.qm_lex.specs.declared.token.Kind.TheVariants as kind
use Rattle.qm_lex.specs.declared.token.Token.{Token}
use Rattle.qm_parse.specs.declared.word.Symbol.{Symbol}
use Rattle.qm_parse.specs.declared.word.Word.{Word}
use Rattle.qm_parse.specs.declared.word.Word.TheVariants.{Name, Number, Sign, Related, Colon, Keyword as Reserved, Infinite, Free}
use Rattle.qm_parse.specs.Symbols.{AreSymbols, IsSymbolOf, IsWordOf, infinite_word, is_before_colon, is_colon}
use Rattle.qm_parse.specs.Texts.{KnowColons, KnowsColon, is_colon_next}

-- whether the word is a name, and its flag
abbrev is_name : Word → Bool
is_name (Name n labels) = true
is_name word = false

abbrev flag_of : Word → Bool
flag_of (Name n labels) = labels
flag_of word = false

abbrev is_colon_word : Word → Bool
is_colon_word Colon = true
is_colon_word word = false

no_infinite_name : (bytes : List ℕ) → is_name (infinite_word bytes) ≡ false
no_infinite_name bytes =
    elim (str_eq_ignore_ascii_case bytes (codes "FREE")) as (λ b. is_name (cond b Free Infinite) ≡ false) [ true ↦ refl | false ↦ refl ]

no_infinite_colon : (bytes : List ℕ) → is_colon_word (infinite_word bytes) ≡ false
no_infinite_colon bytes =
    elim (str_eq_ignore_ascii_case bytes (codes "FREE")) as (λ b. is_colon_word (cond b Free Infinite) ≡ false) [ true ↦ refl | false ↦ refl ]

-- a word that is no name isn't one
other : (word said : Word) (n : ℕ) (labels flag : Bool) → word ≡ said → is_name said ≡ false → word ≡ Name n labels → labels ≡ flag
other word said n labels flag is plain named = absurd (false≢true (sym plain ∙ ap is_name (sym is ∙ named)))

-- the flag of a name is whether a colon is next
flag-is : (names : List (List ℕ)) (bytes : List ℕ) (flag : Bool) (of : Kind) (word : Word) (n : ℕ) (labels : Bool) → IsWordOf names bytes flag of word → word ≡ Name n labels → labels ≡ flag
flag-is names bytes flag kind.Name word n labels is named = ap flag_of (sym named ∙ is.2)
flag-is names bytes flag kind.Number word n labels is named = other word _ n labels flag is.2 refl named
flag-is names bytes flag kind.Plus word n labels is named = other word _ n labels flag is refl named
flag-is names bytes flag kind.Minus word n labels is named = other word _ n labels flag is refl named
flag-is names bytes flag kind.Less word n labels is named = other word _ n labels flag is refl named
flag-is names bytes flag kind.Greater word n labels is named = other word _ n labels flag is refl named
flag-is names bytes flag kind.Equal word n labels is named = other word _ n labels flag is refl named
flag-is names bytes flag kind.Colon word n labels is named = other word _ n labels flag is refl named
flag-is names bytes flag (kind.Keyword reserved) word n labels is named = other word _ n labels flag is refl named
flag-is names bytes flag kind.Infinite word n labels is named = other word _ n labels flag is (no_infinite_name bytes) named

-- a word is a colon where its token is one
colon-is : (names : List (List ℕ)) (bytes : List ℕ) (flag : Bool) (of : Kind) (word : Word) → IsWordOf names bytes flag of word → is_colon_word word ≡ is_colon of
unfolding is_colon
colon-is names bytes flag kind.Name word is = ap is_colon_word is.2
colon-is names bytes flag kind.Number word is = ap is_colon_word is.2
colon-is names bytes flag kind.Plus word is = ap is_colon_word is
colon-is names bytes flag kind.Minus word is = ap is_colon_word is
colon-is names bytes flag kind.Less word is = ap is_colon_word is
colon-is names bytes flag kind.Greater word is = ap is_colon_word is
colon-is names bytes flag kind.Equal word is = ap is_colon_word is
colon-is names bytes flag kind.Colon word is = ap is_colon_word is
colon-is names bytes flag (kind.Keyword reserved) word is = ap is_colon_word is
colon-is names bytes flag kind.Infinite word is = ap is_colon_word is ∙ no_infinite_colon bytes

is-colon : (word : Word) → is_colon_word word ≡ true → word ≡ Colon
is-colon Colon h = refl
is-colon (Name n labels) h = absurd (false≢true h)
is-colon (Number number) h = absurd (false≢true h)
is-colon (Sign minus) h = absurd (false≢true h)
is-colon (Related relation) h = absurd (false≢true h)
is-colon (Reserved word) h = absurd (false≢true h)
is-colon Infinite h = absurd (false≢true h)
is-colon Free h = absurd (false≢true h)

-- a colon is next, by the flag
abbrev IsNext : Bool → List Symbol → Type 0
IsNext flag symbols = ((flag ≡ true) × is_colon_next symbols) ⊎ ((flag ≡ false) × ¬ is_colon_next symbols)

next-word : (word : Word) (flag : Bool) → is_colon_word word ≡ flag → ((flag ≡ true) × (word ≡ Colon)) ⊎ ((flag ≡ false) × (word ≢ Colon))
next-word word true is = inl (refl, is-colon word is)
next-word word false is = inr (refl, λ colon. false≢true (sym is ∙ ap is_colon_word colon))

next-is : (text : List ℕ) (names : List (List ℕ)) (line : ℕ) (tokens : List Token) (symbols : List Symbol) → AreSymbols text names line tokens symbols → IsNext (is_before_colon tokens) symbols
unfolding is_before_colon
next-is text names line [] [] are = inr (refl, λ h. h)
next-is text names line [] (symbol ∷ symbols) are = absurd are
next-is text names line (token ∷ tokens) [] are = absurd are
next-is text names line (token ∷ tokens) (symbol ∷ symbols) are =
    next-word symbol.word (is_colon token.kind) (colon-is names _ _ token.kind symbol.word are.0.word)

knows : (text : List ℕ) (names : List (List ℕ)) (line : ℕ) (token : Token) (tokens : List Token) (symbol : Symbol) (symbols : List Symbol)
    → IsSymbolOf text names line token tokens symbol → IsNext (is_before_colon tokens) symbols → KnowsColon symbol symbols
knows text names line token tokens symbol symbols is next n labels named =
    subst (λ b. IsNext b symbols) (sym (flag-is names _ (is_before_colon tokens) token.kind symbol.word n labels is.word named)) next

pub colons-known : (text : List ℕ) (names : List (List ℕ)) (line : ℕ) (tokens : List Token) (symbols : List Symbol) → AreSymbols text names line tokens symbols → KnowColons symbols
colons-known text names line [] [] are = tt
colons-known text names line [] (symbol ∷ symbols) are = absurd are
colons-known text names line (token ∷ tokens) [] are = absurd are
colons-known text names line (token ∷ tokens) (symbol ∷ symbols) are =
    (knows text names line token tokens symbol symbols are.0 (next-is text names symbol.place.line tokens symbols are.1), colons-known text names symbol.place.line tokens symbols are.1)
