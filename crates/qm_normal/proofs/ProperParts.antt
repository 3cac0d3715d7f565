-- Parts of a text whose numbers are over positive denominators: what the part says of them, and that they are so behind it.
use Rattle.std.proofs.Common.{◌≡◌, ℕ, ◌<◌, Bool, true, false, List, [], ◌∷◌, inl, inr, Some, sym, subst, lit<}
use Rattle.std.specs.Prelude.{All, IfSome}
use Rattle.std.proofs.lemmas.List.Elements.{All-cons, All-head, All-nil, All-tail}
use Rattle.qm_math.specs.Fraction.{Fraction, HasPositiveDen}
use Rattle.qm_lex.specs.declared.place.Place.{Place}
use Rattle.qm_parse.specs.declared.word.Symbol.{Symbol}
use Rattle.qm_parse.specs.declared.word.Word.{Word}
use Rattle.qm_parse.specs.declared.word.Word.TheVariants.{Number}
use Rattle.qm_parse.specs.Drafts.{one, signed_by}
use Rattle.qm_parse.specs.Parts.{◌then◌, Each, Either, NameAt, Nothing, NothingIf, NumberAt, Part, Says, SignOf, Signed, SignedNumber, SignedTerm}
use Rattle.qm_parse.specs.declared.word.Word.TheVariants.{Sign}
use Rattle.qm_parse.proofs.WrittenSteps.{number_body}
use Rattle.qm_parse.proofs.KnownRows.{second}

-- the number of the word is, where it is one
abbrev pub IsProperWord : Word → Type 0
IsProperWord (Number number) = IfSome number HasPositiveDen
IsProperWord word = Unit {0}

abbrev pub IsProperSymbol : Symbol → Type 0
IsProperSymbol symbol = IsProperWord symbol.word

abbrev pub AreProper : List Symbol → Type 0
AreProper symbols = All IsProperSymbol symbols

pub record Given (rest : List Symbol) (Fact : Type 0) : Type 0 where
  pub proper : AreProper rest
  pub fact : Fact

-- the part says this, where the numbers are proper
pub record Gives (part : Part) (Fact : Type 0) : Type 0 where
  pub given : (symbols rest : List Symbol) → AreProper symbols → part symbols rest → Given rest Fact

behind-first : {Fact : Type 0} (symbol : Symbol) (symbols rest : List Symbol) → AreProper (symbol ∷ symbols) → symbols ≡ rest → Fact → Given rest Fact
behind-first symbol symbols rest proper same fact =
    record { proper = subst AreProper same (All-tail IsProperSymbol symbol symbols proper); fact = fact }

says-given : (word : Word) (symbols rest : List Symbol) → AreProper symbols → Says word symbols rest → Given rest (IsProperWord word)
says-given word [] rest proper h = absurd h
says-given word (symbol ∷ symbols) rest proper h =
    behind-first symbol symbols rest proper h.1 (subst IsProperWord h.0 (All-head IsProperSymbol symbol symbols proper))

pub gives-Says : (word : Word) → Gives (Says word) (IsProperWord word)
gives-Says word = record { given = says-given word }

number-given : (value : Fraction) (at : Place) (symbols rest : List Symbol) → AreProper symbols → NumberAt value at symbols rest → Given rest (HasPositiveDen value)
number-given value at [] rest proper h = absurd h
number-given value at (symbol ∷ symbols) rest proper h =
    behind-first symbol symbols rest proper h.2 (subst IsProperWord h.0 (All-head IsProperSymbol symbol symbols proper))

pub gives-NumberAt : (value : Fraction) (at : Place) → Gives (NumberAt value at) (HasPositiveDen value)
gives-NumberAt value at = record { given = number-given value at }

name-given : (name : ℕ) (at : Place) (symbols rest : List Symbol) → AreProper symbols → NameAt name at symbols rest → Given rest (Unit {0})
name-given name at [] rest proper h = absurd h
name-given name at (symbol ∷ symbols) rest proper h = behind-first symbol symbols rest proper h.2 tt

pub gives-NameAt : (name : ℕ) (at : Place) → Gives (NameAt name at) (Unit {0})
gives-NameAt name at = record { given = name-given name at }

pub gives-Nothing : Gives Nothing (Unit {0})
gives-Nothing = record { given = λ symbols rest proper same. record { proper = subst AreProper same proper; fact = tt } }

-- what isn't written is 1
pub gives-one : (value : Fraction) → Gives (NothingIf (value ≡ one)) (HasPositiveDen value)
gives-one value = record {
  given = λ symbols rest proper h. record { proper = subst AreProper h.1 proper; fact = subst HasPositiveDen (sym h.0) (let some : 0 < 1 = lit< tt in some) };
}

pub gives-then : {first second : Part} {P Q R : Type 0} → Gives first P → Gives second Q → (P → Q → R) → Gives (first then second) R
gives-then one two both = record {
  given = λ symbols rest proper h.
      let a = one.given symbols h.0 proper h.1 in
      let b = two.given h.0 rest a.proper h.2 in
      record { proper = b.proper; fact = both a.fact b.fact };
}

either-given : {one other : Part} {Fact : Type 0} → Gives one Fact → Gives other Fact → (symbols rest : List Symbol) → AreProper symbols → Either one other symbols rest → Given rest Fact
either-given a b symbols rest proper (inl h) = a.given symbols rest proper h
either-given a b symbols rest proper (inr h) = b.given symbols rest proper h

pub gives-Either : {one other : Part} {Fact : Type 0} → Gives one Fact → Gives other Fact → Gives (Either one other) Fact
gives-Either a b = record { given = either-given a b }

pub gives-Each : {A : Type 0} (Item : A → Part) (P : A → Type 0) → ((item : A) → Gives (Item item) (P item)) → (items : List A) → Gives (Each Item items) (All P items)
gives-Each Item P each [] = record { given = λ symbols rest proper same. record { proper = subst AreProper same proper; fact = All-nil P } }
gives-Each Item P each (item ∷ items) = gives-then (each item) (gives-Each Item P each items) (λ a b. All-cons P item items a b)

pub first : {A : Type 0} {B : Type 0} → A → B → A
first a b = a

-- ---- signs

signs-give : (signs : List Bool) → Gives (Each SignOf signs) (All (λ _. Unit {0}) signs)
signs-give signs = gives-Each SignOf (λ _. Unit {0}) (λ minus. gives-Says (Sign minus)) signs

pub gives-Signed : {Fact : Type 0} (Body : Bool → Part) → ((negative : Bool) → Gives (Body negative) Fact) → Gives (Signed Body) Fact
gives-Signed Body body = record { given = λ symbols rest proper h. (gives-then (signs-give h.0) (body _) second).given symbols rest proper h.1 }

pub gives-SignedTerm : {Fact : Type 0} (is_first : Bool) (Body : Bool → Part) → ((negative : Bool) → Gives (Body negative) Fact) → Gives (SignedTerm is_first Body) Fact
gives-SignedTerm is_first Body body = record { given = λ symbols rest proper h. (gives-then (signs-give h.0) (body _) second).given symbols rest proper h.2 }

signed_den : (negative : Bool) (value : Fraction) → HasPositiveDen value → HasPositiveDen (signed_by negative value)
unfolding signed_by
signed_den true value some = some
signed_den false value some = some

pub signed_is : (negative : Bool) (value signed : Fraction) → signed ≡ signed_by negative value → HasPositiveDen value → HasPositiveDen signed
signed_is negative value signed e some = subst HasPositiveDen (sym e) (signed_den negative value some)

number_given : (value : Fraction) (negative : Bool) (symbols rest : List Symbol) → AreProper symbols → number_body value negative symbols rest → Given rest (HasPositiveDen value)
number_given value negative symbols rest proper h =
    let one = (gives-Says (Number (Some h.0))).given symbols rest proper h.2 in
    record { proper = one.proper; fact = signed_is negative h.0 value h.1 one.fact }

gives-number_body : (value : Fraction) (negative : Bool) → Gives (number_body value negative) (HasPositiveDen value)
gives-number_body value negative = record { given = number_given value negative }

pub gives-SignedNumber : (value : Fraction) → Gives (SignedNumber value) (HasPositiveDen value)
gives-SignedNumber value = gives-Signed (number_body value) (gives-number_body value)
