-- Tokens have symbols, and an answer that isn't want of memory.
use Rattle.std.proofs.Common.{◌≡◌, ◌≢◌, ℕ, ◌^◌, Bool, not, List, [], ◌∷◌, ◌==◌, Option, Some, None, Result, Ok, Err, ◌⊎◌, inl, inr, length, get_or, refl, subst, arith}
use Rattle.std.specs.Prelude.{slice_get, unsigned_abs}
use Rattle.std.proofs.lemmas.Bool.{cases_lt}
use Rattle.std.proofs.lemmas.List.Elements.{All-head, All-tail}
use Rattle.std.proofs.lemmas.Option.{slice_get-get_or}
use Rattle.qm_math.specs.Fraction.{Fraction}
use Rattle.qm_frac.specs.Lowest.{IsInRange}
use Rattle.qm_text.specs.Decimals.{Decimal, Stays, decimal_value, digits_of, without_first_zeros, without_last_zeros}
use Rattle.qm_lex.specs.declared.place.Place.{Place}
use Rattle.qm_lex.specs.declared.token.Kind.{Kind}
use Rattle.qm_lex.specs.declared.token.Kind.TheVariants as kind
use Rattle.qm_lex.specs.declared.token.Token.{Token}
use Rattle.qm_lex.specs.Numbers.{IsNumber}
use Rattle.qm_lex.specs.Places.{place_of}
use Rattle.qm_lex.specs.Texts.{AreTokens}
use Rattle.qm_parse.specs.declared.ast.Ast.{Ast}
use Rattle.qm_parse.specs.declared.fault.ParseFault.{ParseFault}
use Rattle.qm_parse.specs.declared.fault.ParseFault.TheVariants as fault
use Rattle.qm_parse.specs.declared.offence.NameFault.{NameFault}
use Rattle.qm_parse.specs.declared.offence.Offence.{Offence}
use Rattle.qm_parse.specs.declared.offence.Offence.TheVariants as offence
use Rattle.qm_parse.specs.declared.stage.State.{State}
use Rattle.qm_parse.specs.declared.unread.Unread.{Unread}
use Rattle.qm_parse.specs.declared.unread.Unread.TheVariants as unread
use Rattle.qm_parse.specs.declared.word.Symbol.{Symbol}
use Rattle.qm_parse.specs.declared.word.Word.{Word}
use Rattle.qm_parse.specs.declared.word.Word.TheVariants.{Name, Number}
use Rattle.qm_parse.specs.Checks.{name_fault}
use Rattle.qm_parse.specs.Faults.{IsFaultBehind}
use Rattle.qm_parse.specs.Parsing.{HasOffence, IsJudged, IsParsed}
use Rattle.qm_parse.specs.Symbols.{AreNumbers, AreSymbols, IsNumberOf, IsValueOf, IsWordOf, bytes_of, infinite_word, is_before_colon, names_behind, names_of, with_token}
use Rattle.qm_parse.proofs.OneAnswer.{told}
use Rattle.qm_parse.proofs.Parsed.{AreOf, expected-first, is-first, known-parsed, reading, tree-parsed}
use Rattle.qm_parse.proofs.SymbolNames.{get-names_behind, with_token-has}
use Rattle.qm_parse.proofs.SymbolNumbers.{numbers-spelled}

-- ---- symbols

range_or : (r : Fraction) → IsInRange r ⊎ (¬ IsInRange r)
range_or r =
    elim (cases_lt (unsigned_abs r.num) (2 ^ 127)) [
      | inr beyond ↦ inr (λ fits. let near = fits.num_fits in absurd (omega arith))
      | inl num ↦
          elim (cases_lt r.den (2 ^ 127)) [
            | inr beyond ↦ inr (λ fits. let near = fits.den_fits in absurd (omega arith))
            | inl den ↦ inl (record { num_fits = num; den_fits = den })
          ]
    ]

-- a decimal stays, or it doesn't
stays_or : (d : Decimal) → Stays d ⊎ (¬ Stays d)
stays_or d =
    elim (cases_lt 38 (length (without_last_zeros (without_first_zeros (digits_of d))))) [
      | inl many ↦ inr (λ stays. let few = stays.few in absurd (omega arith))
      | inr few ↦
          elim (range_or (decimal_value d)) [
            | inl fits ↦ inl (record { few = few; fits = fits })
            | inr beyond ↦ inr (λ stays. beyond stays.fits)
          ]
    ]

some_value : (bytes : List ℕ) → IsNumber bytes → (number : Option Fraction) × IsValueOf bytes number
some_value bytes spelled =
    elim (stays_or spelled.0) [
      | inl stays ↦ (Some (decimal_value spelled.0), (spelled.0, spelled.1, stays, refl))
      | inr leaves ↦ (None, (spelled.0, spelled.1, leaves))
    ]

some_word : (names : List (List ℕ)) (bytes : List ℕ) (labels : Bool) (of : Kind)
    → (of ≡ kind.Name → (n : ℕ) × (slice_get names n ≡ Some bytes)) → IsNumberOf of bytes → (word : Word) × IsWordOf names bytes labels of word
some_word names bytes labels kind.Name named number = let at = named refl in (Name at.0 labels, (at.0, at.1, refl))
some_word names bytes labels kind.Number named number = let value = some_value bytes (number refl) in (Number value.0, (value.0, value.1, refl))
some_word names bytes labels kind.Plus named number = (_, refl)
some_word names bytes labels kind.Minus named number = (_, refl)
some_word names bytes labels kind.Less named number = (_, refl)
some_word names bytes labels kind.Greater named number = (_, refl)
some_word names bytes labels kind.Equal named number = (_, refl)
some_word names bytes labels kind.Colon named number = (_, refl)
some_word names bytes labels (kind.Keyword reserved) named number = (_, refl)
some_word names bytes labels kind.Infinite named number = (infinite_word bytes, refl)

some_symbols : (text : List ℕ) (all before : List (List ℕ)) (line : ℕ) (tokens : List Token) → names_behind text before tokens ≡ all → AreNumbers text tokens
    → (symbols : List Symbol) × AreSymbols text all line tokens symbols
unfolding names_behind
some_symbols text all before line [] is numbers = ([], tt)
some_symbols text all before line (token ∷ tokens) is numbers =
    let bytes = bytes_of text token in
    let new = with_token before token.kind bytes in
    let place : Place = place_of text token.start in
    let IsSpelled : Token → Type 0 = λ t. IsNumberOf t.kind (bytes_of text t) in
    let named : token.kind ≡ kind.Name → (n : ℕ) × (slice_get all n ≡ Some bytes) = λ name.
    let has = with_token-has before token.kind bytes name in
    (has.0, subst (λ names. slice_get names has.0 ≡ Some bytes) is (get-names_behind text new tokens has.0 bytes has.1)) in
    let word = some_word all bytes (is_before_colon tokens) token.kind named (All-head IsSpelled token tokens numbers) in
    let rest = some_symbols text all new place.line tokens is (All-tail IsSpelled token tokens numbers) in
    let symbol : Symbol = record { word = word.0; place = place; begins_line = not (place.line == line) } in
    (symbol ∷ rest.0, (record { word = word.1; place = refl; line_begins = refl }, rest.1))

-- ---- the answer to symbols

-- an answer that isn't want of memory
abbrev IsAnswered : List ℕ → List Token → Type 0
IsAnswered text tokens = (answer : Result Ast ParseFault) × (answer ≢ Err fault.Memory) × IsParsed text tokens answer

offence-judged : (ast : Ast) (of : Offence) (name : List ℕ) (at : Place) → HasOffence ast of name at → IsJudged ast (told of name at)
offence-judged ast offence.BothPlayers name at has = has
offence-judged ast offence.Twice name at has = has
offence-judged ast offence.Unknown name at has = has
offence-judged ast offence.Unordered name at has = has
offence-judged ast offence.Infinite name at has = has
offence-judged ast offence.NoUpper name at has = has

offence-told : (of : Offence) (name : List ℕ) (at : Place) → told of name at ≢ Err fault.Memory
offence-told offence.BothPlayers name at same = cc
offence-told offence.Twice name at same = cc
offence-told offence.Unknown name at same = cc
offence-told offence.Unordered name at same = cc
offence-told offence.Infinite name at same = cc
offence-told offence.NoUpper name at same = cc

tree_answered : (text : List ℕ) (tokens : List Token) (symbols : List Symbol) (ast : Ast) (found : Option NameFault)
    → AreOf text tokens symbols → reading text tokens symbols ≡ Ok ast → name_fault ast ≡ found → IsAnswered text tokens
tree_answered text tokens symbols ast None are is none = (Ok ast, λ same. cc, tree-parsed text tokens symbols ast (Ok ast) are is (refl, none))
tree_answered text tokens symbols ast (Some first) are is some =
    let name = get_or ast.names first.name [] in
    let inside = known-parsed text tokens (names_of text tokens) symbols (place_of text (length text)) ast first refl are is some in
    let has : HasOffence ast first.offence name first.at = (first.name, some, slice_get-get_or ast.names first.name [] inside) in (
      told first.offence name first.at,
      offence-told first.offence name first.at,
      tree-parsed text tokens symbols ast (told first.offence name first.at) are is (offence-judged ast first.offence name first.at has),
    )

-- want of memory is no fault of symbols
no_fault_of_memory : (front : List Symbol) (state : State) (behind : List Symbol) (end : Place) → ¬ IsFaultBehind front state behind end unread.Memory
no_fault_of_memory front state [] end is = let same = is.0 in cc
no_fault_of_memory front state (symbol ∷ symbols) end (inl is) = let same = is.0 in cc
no_fault_of_memory front state (symbol ∷ symbols) end (inr is) = let same = is.0 in cc

reading_answered : (text : List ℕ) (tokens : List Token) (symbols : List Symbol) (found : Result Ast Unread)
    → AreOf text tokens symbols → reading text tokens symbols ≡ found → IsAnswered text tokens
reading_answered text tokens symbols (Ok ast) are is = tree_answered text tokens symbols ast (name_fault ast) are is refl
reading_answered text tokens symbols (Err (unread.Expected at what)) are is =
    (Err (fault.Expected at what), λ same. cc, record { symbols = symbols; spelled = are; answered = expected-first text tokens symbols at what are is })
reading_answered text tokens symbols (Err (unread.Number at)) are is =
    (Err (fault.Number at), λ same. cc, record { symbols = symbols; spelled = are; answered = is-first text tokens symbols (unread.Number at) are is })
reading_answered text tokens symbols (Err unread.Memory) are is =
    let first = is-first text tokens symbols unread.Memory are is in
    absurd (no_fault_of_memory first.front first.state first.behind (place_of text (length text)) first.stops)

pub some_answer : (text : List ℕ) (tokens : List Token) → AreTokens text tokens → (answer : Result Ast ParseFault) × (answer ≢ Err fault.Memory) × IsParsed text tokens answer
some_answer text tokens cut =
    let spelled = some_symbols text (names_of text tokens) [] 0 tokens refl (numbers-spelled text 0 tokens (length text) cut) in
    reading_answered text tokens spelled.0 (reading text tokens spelled.0) spelled.1 refl
