-- What is expected at the first fault, by the part that has begun there and how far it has come. The symbols of a part go
-- from where it begins to the rest, which can't go on with it.
use Rattle.std.specs.Prelude.{◌≡◌, ℕ, true, false, List, [], ◌∷◌, Some}
use Rattle.qm_lex.specs.declared.place.Place.{Place}
use Rattle.qm_lex.specs.declared.token.Keyword.TheVariants as keyword
use Rattle.qm_parse.specs.declared.fault.What.{What}
use Rattle.qm_parse.specs.declared.fault.What.TheVariants as what
use Rattle.qm_parse.specs.declared.word.Symbol.{Symbol}
use Rattle.qm_parse.specs.declared.word.Word.TheVariants.{Number, Related, Keyword as Reserved}
use Rattle.qm_parse.specs.Parts.{◌then◌, BoundBody, BoundEnds, BoundOf, Each, Either, Label, ListHeading, ListedName, NameAt, Nothing, NothingIf, ObjectiveOf, ObjectiveTerm, OptionalLabel, Part, RowEnds, RowOf, RowTerm, RowsHeading, Says, SenseWord, SignOf, SignedNumber, Terms, Value, ValueFirst}
use Rattle.qm_parse.specs.Texts.{SectionOf}

-- some item of this kind
abbrev pub Any : {A : Type 0} → (A → Part) → Part
Any {A = A} Item symbols rest = (item : A) × Item item symbols rest

-- nothing, where this part doesn't begin
abbrev pub Unless : Part → Part
Unless Other symbols rest = (¬ Other symbols symbols) × Nothing symbols rest

-- no such part
abbrev pub Never : Part
Never symbols rest = ⊥

-- zero or more signs
abbrev pub AnySigns : Part
AnySigns = Any (Each SignOf)

-- one or more
abbrev pub Signs : Part
Signs = Any SignOf then AnySigns

abbrev pub AnyName : Part
AnyName symbols rest = (n : ℕ) × (at : Place) × NameAt n at symbols rest

abbrev pub AnyNumber : Part
AnyNumber = Any (λ value. Says (Number (Some value)))

abbrev pub AnyRelation : Part
AnyRelation = Any (λ relation. Says (Related relation))

-- END stands next
abbrev pub IsEndNext : List Symbol → Type 0
IsEndNext [] = ⊥
IsEndNext (symbol ∷ symbols) = symbol.word ≡ Reserved keyword.End

-- a section may begin; END may not where ORDER wasn't there
abbrev pub NextWants : What → Part
NextWants what.Section symbols rest = (¬ IsEndNext symbols) × Nothing symbols rest
NextWants what.Order symbols rest = IsEndNext symbols × Nothing symbols rest
NextWants expected symbols rest = ⊥

-- an objective that isn't over
abbrev pub ObjectiveWants : What → Part
ObjectiveWants what.Term = OptionalLabel then Any (Terms ObjectiveTerm) then Signs
ObjectiveWants expected = Never

-- the heading of rows
abbrev pub HeadingWants : What → Part
HeadingWants what.SubjectTo = Nothing
HeadingWants what.To = Says (Reserved keyword.Subject)
HeadingWants expected = Never

-- a row, from its label or its first term
abbrev pub RowWants : What → Part
RowWants what.Term = Either Label (OptionalLabel then Any (Terms RowTerm) then Signs)
RowWants what.Name = OptionalLabel then Any (Terms RowTerm) then AnySigns then AnyNumber
RowWants what.Relation = OptionalLabel then Any (RowTerm true) then Any (Each (RowTerm false))
RowWants what.Number = OptionalLabel then Any (RowTerm true) then Any (Each (RowTerm false)) then AnyRelation then AnySigns
RowWants what.LineEnd = OptionalLabel then Any (RowTerm true) then Any (Each (RowTerm false)) then AnyRelation then Any SignedNumber then Unless RowEnds
RowWants expected = NextWants expected

-- a bound
abbrev pub BoundWants : What → Part
BoundWants what.Relation = Either AnyName (Any Value)
BoundWants what.Name = Any Value then AnyRelation
BoundWants what.Number = Either Signs (Either (AnyName then AnyRelation then AnySigns) (Any ValueFirst then AnyRelation then AnySigns))
BoundWants what.LineEnd = Any BoundBody then Unless BoundEnds
BoundWants expected = NextWants expected

-- a section, from its first keyword; or END
abbrev pub SectionWants : What → Part
SectionWants expected =
    Either (Says (Reserved keyword.Uncertainty) then Either (HeadingWants expected) (RowsHeading then Any (Each RowOf) then RowWants expected))
    (Either (Says (Reserved keyword.Bounds) then Any (Each BoundOf) then BoundWants expected)
    (Either (Any ListHeading then Any (Each ListedName) then NextWants expected)
    (Says (Reserved keyword.End) then NothingIf (expected ≡ what.TextEnd))))

-- a text, by the part that it ends in
abbrev pub Wants : What → Part
Wants expected =
    Either (NothingIf (expected ≡ what.Sense))
    (Any SenseWord then Either (ObjectiveWants expected)
    (Any ObjectiveOf then Either (HeadingWants expected)
    (RowsHeading then Any (Each RowOf) then Either (RowWants expected)
    (Any (Each SectionOf) then SectionWants expected))))
