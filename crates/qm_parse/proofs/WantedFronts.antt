-- What is expected, told from each stage of a part.
use Rattle.std.proofs.Common.{◌≡◌, Bool, false, Option, Some, None}
use Rattle.qm_parse.specs.declared.ast.AstTerm.{AstTerm}
use Rattle.qm_parse.specs.declared.fault.What.{What}
use Rattle.qm_parse.specs.declared.fault.What.TheVariants as what
use Rattle.qm_parse.specs.declared.stage.Stage.{Stage}
use Rattle.qm_parse.specs.declared.stage.Stage.TheVariants as stage
use Rattle.qm_parse.specs.declared.stage.State.{State}
use Rattle.qm_parse.specs.declared.word.Word.TheVariants.{Colon, Free, Keyword as Reserved}
use Rattle.qm_lex.specs.declared.token.Keyword.TheVariants as keyword
use Rattle.qm_parse.specs.Parts.{◌then◌, BoundEnds, BoundOf, Constant, Each, Either, ListedName, Multiple, NothingIf, ObjectiveOf, ObjectiveTerm, Part, RowEnds, RowOf, RowTerm, RowsHeading, Says, SignedNumber, Terms, Value}
use Rattle.qm_parse.specs.Texts.{SectionOf, is_colon_next}
use Rattle.qm_parse.specs.Wants.{Any, AnyName, AnyNumber, AnyRelation, AnySigns, BoundWants, HeadingWants, NextWants, ObjectiveWants, RowWants, SectionWants, Signs, Unless, Wants}

-- a part, where this holds
abbrev pub If : Type 0 → Part → Part
If p Item symbols rest = p × Item symbols rest

abbrev pub SectionsFront : What → Part
SectionsFront e = Any (Each SectionOf) then SectionWants e

abbrev pub RowsFront : What → Part
RowsFront e = Any (Each RowOf) then Either (RowWants e) (SectionsFront e)

abbrev pub HeadingFront : What → Part
HeadingFront e = Either (HeadingWants e) (RowsHeading then RowsFront e)

abbrev pub ObjectiveFront : What → Part
ObjectiveFront e = Either (ObjectiveWants e) (Any ObjectiveOf then HeadingFront e)

-- a term behind its signs, whatever they say
abbrev pub Body : (AstTerm → Bool → Part) → Part
Body Item symbols rest = (negative : Bool) → (term : AstTerm) × Item term negative symbols rest

abbrev pub ObjectiveBody : AstTerm → Bool → Part
ObjectiveBody term negative = Either (Multiple term negative) (Constant term negative)

-- behind a term of the objective
abbrev pub ObjectiveTail : What → Part
ObjectiveTail e = Either (If (e ≡ what.Term) Signs) (HeadingFront e)

abbrev pub ObjectiveMore : What → Part
ObjectiveMore e = Any (Each (ObjectiveTerm false)) then ObjectiveTail e

abbrev pub ObjectiveNumbered : What → Part
ObjectiveNumbered e = Either (ObjectiveMore e) (AnyName then ObjectiveMore e)

abbrev pub ObjectiveSigned : What → Part
ObjectiveSigned e = AnySigns then Either (NothingIf (e ≡ what.Term)) (Body ObjectiveBody then ObjectiveMore e)

abbrev pub ObjectiveBegun : What → Part
ObjectiveBegun e = Any (Terms ObjectiveTerm) then ObjectiveTail e

-- behind a label
abbrev pub BehindLabel : Part → Part
BehindLabel Next symbols rest = is_colon_next symbols → (Says Colon then Next) symbols rest

abbrev pub SubjectFront : What → Part
SubjectFront e = Either (NothingIf (e ≡ what.To)) (Says (Reserved keyword.To) then RowsFront e)

-- behind the right side of a row
abbrev pub RowEndFront : What → Part
RowEndFront e = Either (If (e ≡ what.LineEnd) (Unless RowEnds)) (RowEnds then RowsFront e)

abbrev pub RightFront : What → Part
RightFront e = Either (If (e ≡ what.Number) AnySigns) (Any SignedNumber then RowEndFront e)

-- behind a term of a row
abbrev pub RowTail : What → Part
RowTail e =
    Either (NothingIf (e ≡ what.Relation))
    (Either (If (e ≡ what.Term) Signs) (Either (If (e ≡ what.Name) (Signs then AnyNumber)) (AnyRelation then RightFront e)))

abbrev pub RowMore : What → Part
RowMore e = Any (Each (RowTerm false)) then RowTail e

abbrev pub RowNumbered : What → Part
RowNumbered e = Either (NothingIf (e ≡ what.Name)) (AnyName then RowMore e)

abbrev pub RowBodyFront : What → Part
RowBodyFront e = Either (If (e ≡ what.Name) AnyNumber) (Body Multiple then RowMore e)

abbrev pub RowSigned : What → Part
RowSigned e = AnySigns then Either (NothingIf (e ≡ what.Term)) (RowBodyFront e)

abbrev pub BoundsFront : What → Part
BoundsFront e = Any (Each BoundOf) then Either (BoundWants e) (SectionsFront e)

-- behind a bound
abbrev pub BoundEndFront : What → Part
BoundEndFront e = Either (If (e ≡ what.LineEnd) (Unless BoundEnds)) (BoundEnds then BoundsFront e)

abbrev pub BoundRelationFront : What → Part
BoundRelationFront e = Either (If (e ≡ what.Number) AnySigns) (Any Value then BoundEndFront e)

abbrev pub BoundNameFront : What → Part
BoundNameFront e = Either (NothingIf (e ≡ what.Relation)) (Either (Says Free then BoundEndFront e) (AnyRelation then BoundRelationFront e))

abbrev pub BoundNamedFront : What → Part
BoundNamedFront e = Either (BoundEndFront e) (AnyRelation then BoundRelationFront e)

abbrev pub BoundTurnedFront : What → Part
BoundTurnedFront e = Either (NothingIf (e ≡ what.Name)) (AnyName then BoundNamedFront e)

abbrev pub BoundValueFront : What → Part
BoundValueFront e = Either (NothingIf (e ≡ what.Relation)) (AnyRelation then BoundTurnedFront e)

abbrev pub BoundSignedFront : What → Part
BoundSignedFront e = Either (If (e ≡ what.Number) AnySigns) (Any Value then BoundValueFront e)

abbrev pub NamesFront : What → Part
NamesFront e = Any (Each ListedName) then Either (NextWants e) (SectionsFront e)

-- from a stage on
abbrev pub Front : Stage → What → Part
Front stage.Start e = Wants e
Front stage.ObjectiveFirst e = ObjectiveFront e
Front stage.ObjectiveLabel e = BehindLabel (ObjectiveBegun e)
Front stage.ObjectiveBegin e = ObjectiveBegun e
Front stage.ObjectiveSigned e = ObjectiveSigned e
Front stage.ObjectiveNumber e = ObjectiveNumbered e
Front stage.ObjectiveTerm e = ObjectiveMore e
Front stage.SubjectHeading e = SubjectFront e
Front stage.UncertaintyHeading e = HeadingFront e
Front stage.RowsBegin e = RowsFront e
Front stage.RowLabel e = BehindLabel (RowSigned e)
Front stage.RowSigned e = RowSigned e
Front stage.RowNumber e = RowNumbered e
Front stage.RowTerm e = RowMore e
Front stage.RowRelation e = RightFront e
Front stage.RowEnd e = RowEndFront e
Front stage.BoundsBegin e = BoundsFront e
Front stage.BoundSigned e = BoundSignedFront e
Front stage.BoundValue e = BoundValueFront e
Front stage.BoundTurned e = BoundTurnedFront e
Front stage.BoundNamed e = BoundNamedFront e
Front stage.BoundName e = BoundNameFront e
Front stage.BoundRelation e = BoundRelationFront e
Front stage.BoundEnd e = BoundEndFront e
Front (stage.Names list) e = NamesFront e
Front stage.Ended e = NothingIf (e ≡ what.TextEnd)

-- from the state behind a symbol on
abbrev pub FrontOf : Option State → What → Part
FrontOf None e symbols rest = ⊥
FrontOf (Some next) e symbols rest = Front next.stage e symbols rest
