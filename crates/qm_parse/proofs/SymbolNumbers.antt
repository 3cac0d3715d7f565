-- What a decimal that was read says of a number.
use Rattle.std.proofs.Common.{◌≡◌, ℕ, List, Result, Ok, Err, subst, [], ◌∷◌, Some, None}
use Rattle.std.proofs.lemmas.List.Elements.{All-cons, All-nil}
use Rattle.qm_math.specs.Fraction.{Fraction}
use Rattle.qm_text.specs.declared.fault.NumberFault.{NumberFault}
use Rattle.qm_text.specs.declared.fault.NumberFault.TheVariants as fault
use Rattle.qm_text.specs.Decimals.{SpellsDecimal, Stays, decimal_value}
use Rattle.qm_lex.specs.declared.token.Kind.{Kind}
use Rattle.qm_lex.specs.declared.token.Token.{Token}
use Rattle.qm_lex.specs.Numbers.{IsNumber}
use Rattle.qm_lex.specs.Spelling.{Spells}
use Rattle.qm_lex.specs.Texts.{IsTokenOf, Reaches}
use Rattle.qm_text.specs.Reading.{Reads}
use Rattle.qm_parse.specs.Symbols.{AreNumbers, IsNumberOf, IsValueOf, bytes_of}

abbrev ReadsDecimal : List ℕ → Result Fraction NumberFault → Type 0
ReadsDecimal bytes answer = Reads (SpellsDecimal bytes) Stays decimal_value answer

pub value-there : (bytes : List ℕ) (answer : Result Fraction NumberFault) (value : Fraction) → ReadsDecimal bytes answer → answer ≡ Ok value → IsValueOf bytes (Some value)
value-there bytes answer value reads is = (reads.ok value).0 is

pub no-value : (bytes : List ℕ) (answer : Result Fraction NumberFault) (e : NumberFault) → ReadsDecimal bytes answer → IsNumber bytes → answer ≡ Err e → IsValueOf bytes None
no-value bytes answer fault.NotNumber reads spelled is = absurd (reads.not_number.0 is spelled.0 spelled.1)
no-value bytes answer fault.Leaves reads spelled is = reads.leaves.0 is

-- tokens of the kind of numbers spell numbers
pub numbers-spelled : (text : List ℕ) (from : ℕ) (tokens : List Token) (to : ℕ) → Reaches text from tokens to → AreNumbers text tokens
numbers-spelled text from [] to are = All-nil (λ token. IsNumberOf token.kind (bytes_of text token))
numbers-spelled text from (token ∷ tokens) to are =
    let of : IsTokenOf text token = are.1 in
    All-cons (λ token. IsNumberOf token.kind (bytes_of text token)) token tokens (λ is. subst (λ (k : Kind). Spells k (bytes_of text token)) is of.longest.spelled) (numbers-spelled text token.end tokens to are.2)
