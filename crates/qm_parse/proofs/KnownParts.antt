-- Parts of a text, where the names among the symbols are known: what the part says of them, and that they are known behind it.
use Rattle.std.proofs.Common.{◌≡◌, ℕ, ◌<◌, List, [], ◌∷◌, inl, inr, subst}
use Rattle.std.specs.Prelude.{All}
use Rattle.std.proofs.lemmas.List.Elements.{All-cons, All-head, All-nil, All-tail}
use Rattle.qm_math.specs.Fraction.{Fraction}
use Rattle.qm_lex.specs.declared.place.Place.{Place}
use Rattle.qm_parse.specs.declared.word.Symbol.{Symbol}
use Rattle.qm_parse.specs.declared.word.Word.{Word}
use Rattle.qm_parse.specs.Known.{AreKnown, IsKnown}
use Rattle.qm_parse.specs.Parts.{◌then◌, Each, Either, NameAt, Nothing, NothingIf, NumberAt, Part, Says}

abbrev pub KnownSymbol : ℕ → Symbol → Type 0
KnownSymbol n symbol = IsKnown n symbol.word

-- the names behind a part are known, and it says this
pub record Given (n : ℕ) (rest : List Symbol) (Fact : Type 0) : Type 0 where
  pub known : AreKnown n rest
  pub fact : Fact

-- the part says this, where the names are known
pub record Gives (n : ℕ) (part : Part) (Fact : Type 0) : Type 0 where
  pub given : (symbols rest : List Symbol) → AreKnown n symbols → part symbols rest → Given n rest Fact

-- the rest of known symbols, behind the first
behind-first : {Fact : Type 0} (n : ℕ) (symbol : Symbol) (symbols rest : List Symbol) → AreKnown n (symbol ∷ symbols) → symbols ≡ rest → Fact → Given n rest Fact
behind-first n symbol symbols rest known same fact =
    record { known = subst (AreKnown n) same (All-tail (KnownSymbol n) symbol symbols known); fact = fact }

says-given : (n : ℕ) (word : Word) (symbols rest : List Symbol) → AreKnown n symbols → Says word symbols rest → Given n rest Unit
says-given n word [] rest known h = absurd h
says-given n word (symbol ∷ symbols) rest known h = behind-first n symbol symbols rest known h.1 tt

pub gives-Says : (n : ℕ) (word : Word) → Gives n (Says word) Unit
gives-Says n word = record { given = says-given n word }

number-given : (n : ℕ) (value : Fraction) (at : Place) (symbols rest : List Symbol) → AreKnown n symbols → NumberAt value at symbols rest → Given n rest Unit
number-given n value at [] rest known h = absurd h
number-given n value at (symbol ∷ symbols) rest known h = behind-first n symbol symbols rest known h.2 tt

pub gives-NumberAt : (n : ℕ) (value : Fraction) (at : Place) → Gives n (NumberAt value at) Unit
gives-NumberAt n value at = record { given = number-given n value at }

name-given : (n name : ℕ) (at : Place) (symbols rest : List Symbol) → AreKnown n symbols → NameAt name at symbols rest → Given n rest (name < n)
name-given n name at [] rest known h = absurd h
name-given n name at (symbol ∷ symbols) rest known h =
    behind-first n symbol symbols rest known h.2 (subst (IsKnown n) h.0.1 (All-head (KnownSymbol n) symbol symbols known))

-- a name that stands there has a number
pub gives-NameAt : (n name : ℕ) (at : Place) → Gives n (NameAt name at) (name < n)
gives-NameAt n name at = record { given = name-given n name at }

pub gives-Nothing : (n : ℕ) → Gives n Nothing Unit
gives-Nothing n = record { given = λ symbols rest known same. record { known = subst (AreKnown n) same known; fact = tt } }

pub gives-NothingIf : (n : ℕ) (Premise : Type 0) → Gives n (NothingIf Premise) Unit
gives-NothingIf n Premise = record { given = λ symbols rest known h. record { known = subst (AreKnown n) h.1 known; fact = tt } }

pub gives-then : {n : ℕ} {first second : Part} {P Q R : Type 0} → Gives n first P → Gives n second Q → (P → Q → R) → Gives n (first then second) R
gives-then one two both = record {
  given = λ symbols rest known h.
      let a = one.given symbols h.0 known h.1 in
      let b = two.given h.0 rest a.known h.2 in
      record { known = b.known; fact = both a.fact b.fact };
}

-- what either says
either-given : {n : ℕ} {one other : Part} {Fact : Type 0} → Gives n one Fact → Gives n other Fact → (symbols rest : List Symbol) → AreKnown n symbols → Either one other symbols rest → Given n rest Fact
either-given a b symbols rest known (inl h) = a.given symbols rest known h
either-given a b symbols rest known (inr h) = b.given symbols rest known h

pub gives-Either : {n : ℕ} {one other : Part} {Fact : Type 0} → Gives n one Fact → Gives n other Fact → Gives n (Either one other) Fact
gives-Either a b = record { given = either-given a b }

-- what is said of each item
pub gives-Each : {A : Type 0} (n : ℕ) (Item : A → Part) (P : A → Type 0) → ((item : A) → Gives n (Item item) (P item)) → (items : List A) → Gives n (Each Item items) (All P items)
gives-Each n Item P each [] = record { given = λ symbols rest known same. record { known = subst (AreKnown n) same known; fact = All-nil P } }
gives-Each n Item P each (item ∷ items) = gives-then (each item) (gives-Each n Item P each items) (λ a b. All-cons P item items a b)
