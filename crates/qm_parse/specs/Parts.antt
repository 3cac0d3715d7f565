-- The parts of a text, and the symbols that spell them.
use Rattle.std.specs.Prelude.{◌≡◌, ◌≢◌, ℕ, Bool, true, false, not, List, [], ◌∷◌, ◌⊎◌, Option, Some, None, IsTrue}
use Rattle.qm_math.specs.Fraction.{Fraction}
use Rattle.qm_lex.specs.declared.place.Place.{Place}
use Rattle.qm_lex.specs.declared.token.Keyword.{Keyword}
use Rattle.qm_lex.specs.declared.token.Keyword.TheVariants as keyword
use Rattle.qm_model.specs.declared.game.Sense.{Sense}
use Rattle.qm_model.specs.declared.game.Sense.TheVariants.{Max, Min}
use Rattle.qm_parse.specs.declared.ast.AstBound.{AstBound}
use Rattle.qm_parse.specs.declared.ast.AstRow.{AstRow}
use Rattle.qm_parse.specs.declared.ast.AstTerm.{AstTerm}
use Rattle.qm_parse.specs.declared.ast.Named.{Named}
use Rattle.qm_parse.specs.declared.ast.Relation.TheVariants.{Less}
use Rattle.qm_parse.specs.declared.stage.NameList.{NameList}
use Rattle.qm_parse.specs.declared.stage.NameList.TheVariants.{Generals, Binaries, Exists, All, Order}
use Rattle.qm_parse.specs.declared.word.Symbol.{Symbol}
use Rattle.qm_parse.specs.declared.word.Word.{Word}
use Rattle.qm_parse.specs.declared.word.Word.TheVariants.{Name, Number, Sign, Related, Colon, Keyword as Reserved, Infinite, Free}
use Rattle.qm_parse.specs.Drafts.{one, signed_by, turned}

infixr 20 ◌then◌
-- a part of a text: the symbols from where it begins, and the rest of them, behind it
abbrev pub Part : Type 1
Part = List Symbol → List Symbol → Type 0

-- one part, and another behind it
abbrev pub ◌then◌ : Part → Part → Part
(first then second) symbols rest = (between : List Symbol) × first symbols between × second between rest

-- one part or the other
abbrev pub Either : Part → Part → Part
Either one other symbols rest = one symbols rest ⊎ other symbols rest

-- nothing is written
abbrev pub Nothing : Part
Nothing symbols rest = symbols ≡ rest

-- nothing is written, and this holds
abbrev pub NothingIf : Type 0 → Part
NothingIf p symbols rest = p × Nothing symbols rest

-- each of the items, one behind the other
abbrev pub Each : {A : Type 0} → (A → Part) → List A → Part
Each Item [] = Nothing
Each Item (item ∷ items) = Item item then Each Item items

-- this very word
abbrev pub Says : Word → Part
Says word [] rest = ⊥
Says word (symbol ∷ symbols) rest = (symbol.word ≡ word) × (symbols ≡ rest)

-- the number, at this place
abbrev pub NumberAt : Fraction → Place → Part
NumberAt value at [] rest = ⊥
NumberAt value at (symbol ∷ symbols) rest = (symbol.word ≡ Number (Some value)) × (symbol.place ≡ at) × (symbols ≡ rest)

-- the word is this name
abbrev pub IsName : ℕ → Word → Type 0
IsName n word = (labels : Bool) × (word ≡ Name n labels)

-- the name, at this place
abbrev pub NameAt : ℕ → Place → Part
NameAt n at [] rest = ⊥
NameAt n at (symbol ∷ symbols) rest = IsName n symbol.word × (symbol.place ≡ at) × (symbols ≡ rest)

-- a keyword of two
abbrev pub OneOf : Keyword → Keyword → Part
OneOf one other = Either (Says (Reserved one)) (Says (Reserved other))

-- a plus, or a minus where the flag is set
abbrev pub SignOf : Bool → Part
SignOf minus = Says (Sign minus)

-- the number of minuses is odd
abbrev pub is_odd : List Bool → Bool
is_odd [] = false
is_odd (true ∷ signs) = not (is_odd signs)
is_odd (false ∷ signs) = is_odd signs

-- zero or more signs, of which an odd number of minuses negates
abbrev pub Signed : (Bool → Part) → Part
Signed Body symbols rest = (signs : List Bool) × (Each SignOf signs then Body (is_odd signs)) symbols rest

-- the same; only what stands first may be without a sign
abbrev pub SignedTerm : Bool → (Bool → Part) → Part
SignedTerm is_first Body symbols rest =
    (signs : List Bool) × (IsTrue is_first ⊎ (signs ≢ [])) × (Each SignOf signs then Body (is_odd signs)) symbols rest

-- a number and a name, or a name alone, whose number is then 1
abbrev pub Multiple : AstTerm → Bool → Part
Multiple term negative symbols rest =
    (value : Fraction) × (n : ℕ) × (term.name ≡ Some n) × (term.coef ≡ signed_by negative value)
    × (Either (Says (Number (Some value))) (NothingIf (value ≡ one)) then NameAt n term.at) symbols rest

-- a number alone
abbrev pub Constant : AstTerm → Bool → Part
Constant term negative symbols rest =
    (value : Fraction) × (term.name ≡ None) × (term.coef ≡ signed_by negative value) × NumberAt value term.at symbols rest

abbrev pub ObjectiveTerm : Bool → AstTerm → Part
ObjectiveTerm is_first term = SignedTerm is_first (λ negative. Either (Multiple term negative) (Constant term negative))

abbrev pub RowTerm : Bool → AstTerm → Part
RowTerm is_first term = SignedTerm is_first (Multiple term)

-- terms, of which only the first may be without a sign
abbrev pub Terms : (Bool → AstTerm → Part) → List AstTerm → Part
Terms Term [] = Nothing
Terms Term (term ∷ terms) = Term true term then Each (Term false) terms

-- a name and a colon
abbrev pub Label : Part
Label symbols rest = (n : ℕ) × (at : Place) × (NameAt n at then Says Colon) symbols rest

abbrev pub OptionalLabel : Part
OptionalLabel = Either Label Nothing

abbrev pub SenseWord : Sense → Part
SenseWord Max = OneOf keyword.Maximize keyword.Max
SenseWord Min = OneOf keyword.Minimize keyword.Min

abbrev pub ObjectiveOf : List AstTerm → Part
ObjectiveOf terms = OptionalLabel then Terms ObjectiveTerm terms

-- SUBJECT TO, or ST
abbrev pub RowsHeading : Part
RowsHeading = Either (Says (Reserved keyword.Subject) then Says (Reserved keyword.To)) (Says (Reserved keyword.St))

-- signs and a number
abbrev pub SignedNumber : Fraction → Part
SignedNumber value = Signed (λ negative symbols rest. (q : Fraction) × (value ≡ signed_by negative q) × Says (Number (Some q)) symbols rest)

-- the first symbol stands here
abbrev pub StandsAt : Place → List Symbol → Type 0
StandsAt at [] = ⊥
StandsAt at (symbol ∷ symbols) = symbol.place ≡ at

-- a keyword
abbrev pub IsKeyword : Word → Type 0
IsKeyword word = (reserved : Keyword) × (word ≡ Reserved reserved)

-- the symbols begin with a name and a colon
abbrev pub BeginsWithLabel : List Symbol → Type 0
BeginsWithLabel symbols = (rest : List Symbol) × Label symbols rest

-- behind a row: on the same line only a keyword or a label may stand
abbrev pub RowEnds : Part
RowEnds [] rest = [] ≡ rest
RowEnds (symbol ∷ symbols) rest =
    (IsTrue symbol.begins_line ⊎ IsKeyword symbol.word ⊎ BeginsWithLabel (symbol ∷ symbols)) × (symbol ∷ symbols ≡ rest)

-- behind a bound: on the same line only a keyword may stand
abbrev pub BoundEnds : Part
BoundEnds [] rest = [] ≡ rest
BoundEnds (symbol ∷ symbols) rest = (IsTrue symbol.begins_line ⊎ IsKeyword symbol.word) × (symbol ∷ symbols ≡ rest)

-- one term at least, the relation and the right side
abbrev pub RowOf : AstRow → Part
RowOf row symbols rest =
    (row.terms ≢ []) × StandsAt row.at symbols
    × (OptionalLabel then Terms RowTerm row.terms then Says (Related row.relation) then SignedNumber row.right then RowEnds) symbols rest

-- signs and a number, or signs and INF or INFINITY
abbrev pub Value : Option Fraction → Part
Value (Some value) = SignedNumber value
Value None = Signed (λ negative. Says Infinite)

-- a name, a relation and a value
abbrev pub NameFirst : AstBound → Part
NameFirst bound = NameAt bound.name bound.at then Says (Related bound.relation) then Value bound.value

-- a name and FREE
abbrev pub FreeName : AstBound → Part
FreeName bound symbols rest =
    (bound.relation ≡ Less) × (bound.value ≡ None) × (NameAt bound.name bound.at then Says Free) symbols rest

-- a value, a relation and a name; the relation is then turned
abbrev pub ValueFirst : AstBound → Part
ValueFirst bound = Value bound.value then Says (Related (turned bound.relation)) then NameAt bound.name bound.at

-- a relation and a value behind the name of the bound before
abbrev pub Further : AstBound → AstBound → Part
Further before bound symbols rest =
    (bound.name ≡ before.name) × (bound.at ≡ before.at) × (Says (Related bound.relation) then Value bound.value) symbols rest

-- one relation of a bound, whose name stands first or last
abbrev pub OneBound : AstBound → Part
OneBound bound = Either (NameFirst bound) (Either (FreeName bound) (ValueFirst bound))

-- the relations of one bound, one or two
abbrev pub BoundBody : List AstBound → Part
BoundBody bounds symbols rest =
    ((bound : AstBound) × (bounds ≡ bound ∷ []) × OneBound bound symbols rest)
    ⊎ ((bound : AstBound) × (further : AstBound) × (bounds ≡ bound ∷ further ∷ []) × (ValueFirst bound then Further bound further) symbols rest)

abbrev pub BoundOf : List AstBound → Part
BoundOf bounds = BoundBody bounds then BoundEnds

abbrev pub ListHeading : NameList → Part
ListHeading Generals = OneOf keyword.Generals keyword.General
ListHeading Binaries = OneOf keyword.Binaries keyword.Binary
ListHeading Exists = Says (Reserved keyword.Exists)
ListHeading All = Says (Reserved keyword.All)
ListHeading Order = Says (Reserved keyword.Order)

-- a name of a list
abbrev pub ListedName : Named → Part
ListedName named = NameAt named.name named.at
