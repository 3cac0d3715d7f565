-- How a text goes on: which token may follow a beginning, and what would have followed it where none does.
use Rattle.std.specs.Prelude.{Bool, true, false, ◌||◌, Option, Some, None, if◌then◌else◌}
use Rattle.qm_lex.specs.declared.token.Keyword.{Keyword}
use Rattle.qm_lex.specs.declared.token.Keyword.TheVariants as keyword
use Rattle.qm_parse.specs.declared.fault.What.{What}
use Rattle.qm_parse.specs.declared.fault.What.TheVariants as what
use Rattle.qm_parse.specs.declared.stage.NameList.TheVariants.{Generals, Binaries, Exists, All, Order}
use Rattle.qm_parse.specs.declared.stage.Section.{Section}
use Rattle.qm_parse.specs.declared.stage.Section.TheVariants as section
use Rattle.qm_parse.specs.declared.stage.Seen.{Seen}
use Rattle.qm_parse.specs.declared.stage.Stage.{Stage}
use Rattle.qm_parse.specs.declared.stage.Stage.TheVariants.{Start, ObjectiveFirst, ObjectiveLabel, ObjectiveBegin, ObjectiveSigned, ObjectiveNumber, ObjectiveTerm, SubjectHeading, UncertaintyHeading, RowsBegin, RowLabel, RowSigned, RowNumber, RowTerm, RowRelation, RowEnd, BoundsBegin, BoundSigned, BoundValue, BoundTurned, BoundNamed, BoundName, BoundRelation, BoundEnd, Names, Ended}
use Rattle.qm_parse.specs.declared.stage.State.{State}
use Rattle.qm_parse.specs.declared.word.Symbol.{Symbol}
use Rattle.qm_parse.specs.declared.word.Word.{Word}
use Rattle.qm_parse.specs.declared.word.Word.TheVariants.{Name, Number, Sign, Related, Colon, Keyword as Reserved, Infinite, Free}

-- a first term, or the heading of the rows
unfoldable pub objective_begun : Word → Option Stage
objective_begun (Sign minus) = Some ObjectiveSigned
objective_begun (Number number) = Some ObjectiveNumber
objective_begun (Name n labels) = Some ObjectiveTerm
objective_begun (Reserved keyword.Subject) = Some SubjectHeading
objective_begun (Reserved keyword.St) = Some RowsBegin
objective_begun word = None

-- a row
unfoldable pub row_begun : Word → Option Stage
row_begun (Name n true) = Some RowLabel
row_begun (Name n false) = Some RowTerm
row_begun (Sign minus) = Some RowSigned
row_begun (Number number) = Some RowNumber
row_begun word = None

-- a bound
unfoldable pub bound_begun : Word → Option Stage
bound_begun (Name n labels) = Some BoundName
bound_begun (Sign minus) = Some BoundSigned
bound_begun (Number number) = Some BoundValue
bound_begun Infinite = Some BoundValue
bound_begun word = None

-- the next token of the same part, or of the part that has to follow
unfoldable pub step : Stage → Word → Option Stage
step Start (Reserved keyword.Maximize) = Some ObjectiveFirst
step Start (Reserved keyword.Max) = Some ObjectiveFirst
step Start (Reserved keyword.Minimize) = Some ObjectiveFirst
step Start (Reserved keyword.Min) = Some ObjectiveFirst
step ObjectiveFirst (Name n true) = Some ObjectiveLabel
step ObjectiveFirst word = objective_begun word
step ObjectiveLabel Colon = Some ObjectiveBegin
step ObjectiveBegin word = objective_begun word
step ObjectiveSigned (Sign minus) = Some ObjectiveSigned
step ObjectiveSigned (Number number) = Some ObjectiveNumber
step ObjectiveSigned (Name n labels) = Some ObjectiveTerm
step ObjectiveNumber (Sign minus) = Some ObjectiveSigned
step ObjectiveNumber (Name n labels) = Some ObjectiveTerm
step ObjectiveNumber (Reserved keyword.Subject) = Some SubjectHeading
step ObjectiveNumber (Reserved keyword.St) = Some RowsBegin
step ObjectiveTerm (Sign minus) = Some ObjectiveSigned
step ObjectiveTerm (Reserved keyword.Subject) = Some SubjectHeading
step ObjectiveTerm (Reserved keyword.St) = Some RowsBegin
step SubjectHeading (Reserved keyword.To) = Some RowsBegin
step UncertaintyHeading (Reserved keyword.Subject) = Some SubjectHeading
step UncertaintyHeading (Reserved keyword.St) = Some RowsBegin
step RowsBegin word = row_begun word
step RowEnd word = row_begun word
step RowLabel Colon = Some RowSigned
step RowSigned (Sign minus) = Some RowSigned
step RowSigned (Number number) = Some RowNumber
step RowSigned (Name n labels) = Some RowTerm
step RowNumber (Name n labels) = Some RowTerm
step RowTerm (Sign minus) = Some RowSigned
step RowTerm (Related relation) = Some RowRelation
step RowRelation (Sign minus) = Some RowRelation
step RowRelation (Number number) = Some RowEnd
step BoundsBegin word = bound_begun word
step BoundEnd word = bound_begun word
step BoundNamed (Related relation) = Some BoundRelation
step BoundNamed word = bound_begun word
step BoundSigned (Sign minus) = Some BoundSigned
step BoundSigned (Number number) = Some BoundValue
step BoundSigned Infinite = Some BoundValue
step BoundValue (Related relation) = Some BoundTurned
step BoundTurned (Name n labels) = Some BoundNamed
step BoundName (Related relation) = Some BoundRelation
step BoundName Free = Some BoundEnd
step BoundRelation (Sign minus) = Some BoundRelation
step BoundRelation (Number number) = Some BoundEnd
step BoundRelation Infinite = Some BoundEnd
step (Names list) (Name n labels) = Some (Names list)
step stage word = None

-- where a part has ended or may end, so that a section or END may follow
unfoldable pub may_end : Stage → Bool
may_end RowsBegin = true
may_end RowEnd = true
may_end BoundsBegin = true
may_end BoundNamed = true
may_end BoundEnd = true
may_end (Names list) = true
may_end stage = false

-- the section that the keyword begins
unfoldable pub section_of : Keyword → Option Section
section_of keyword.Uncertainty = Some section.Uncertainty
section_of keyword.Bounds = Some section.Bounds
section_of keyword.Generals = Some (section.Names Generals)
section_of keyword.General = Some (section.Names Generals)
section_of keyword.Binaries = Some (section.Names Binaries)
section_of keyword.Binary = Some (section.Names Binaries)
section_of keyword.Exists = Some (section.Names Exists)
section_of keyword.All = Some (section.Names All)
section_of keyword.Order = Some (section.Names Order)
section_of word = None

-- the section has begun already
unfoldable pub has : Seen → Section → Bool
has seen section.Uncertainty = seen.uncertainty
has seen section.Bounds = seen.bounds
has seen (section.Names Generals) = seen.generals
has seen (section.Names Binaries) = seen.binaries
has seen (section.Names Exists) = seen.exists
has seen (section.Names All) = seen.all
has seen (section.Names Order) = seen.order

-- the same sections, and this one
unfoldable pub with_section : Seen → Section → Seen
with_section seen section.Uncertainty = record seen { uncertainty = true }
with_section seen section.Bounds = record seen { bounds = true }
with_section seen (section.Names Generals) = record seen { generals = true }
with_section seen (section.Names Binaries) = record seen { binaries = true }
with_section seen (section.Names Exists) = record seen { exists = true }
with_section seen (section.Names All) = record seen { all = true }
with_section seen (section.Names Order) = record seen { order = true }

-- behind the first token of the section
unfoldable pub stage_of : Section → Stage
stage_of section.Uncertainty = UncertaintyHeading
stage_of section.Bounds = BoundsBegin
stage_of (section.Names list) = Names list

-- a section, unless it has begun already
unfoldable pub begun : Seen → Section → Option State
begun seen part = if has seen part then None else Some (record { stage = stage_of part; seen = with_section seen part })

-- the section of a keyword
unfoldable pub begun_by : Seen → Option Section → Option State
begun_by seen None = None
begun_by seen (Some part) = begun seen part

-- a section; or END, where ORDER was there
unfoldable pub followed : Seen → Word → Option State
followed seen (Reserved keyword.End) = if seen.order then Some (record { stage = Ended; seen = seen }) else None
followed seen (Reserved word) = begun_by seen (section_of word)
followed seen word = None

-- the token goes on with the part, or begins the next
unfoldable pub moved : State → Word → Option Stage → Option State
moved state word (Some stage) = Some (record { stage = stage; seen = state.seen })
moved state word None = if may_end state.stage then followed state.seen word else None

-- on the line where a row or a bound ends, only this may stand behind it
unfoldable pub may_share_line : Stage → Word → Bool
may_share_line RowEnd (Reserved word) = true
may_share_line RowEnd (Name n labels) = labels
may_share_line RowEnd word = false
may_share_line BoundNamed (Reserved word) = true
may_share_line BoundNamed (Related relation) = true
may_share_line BoundNamed word = false
may_share_line BoundEnd (Reserved word) = true
may_share_line BoundEnd word = false
may_share_line stage word = true

unfoldable pub fits_line : Stage → Symbol → Bool
fits_line stage symbol = symbol.begins_line || may_share_line stage symbol.word

-- the state behind the next token, if the token may follow
unfoldable pub next_state : State → Symbol → Option State
next_state state symbol =
    if fits_line state.stage symbol then moved state symbol.word (step state.stage symbol.word) else None

-- what would go on with this beginning; the text may end behind END alone
unfoldable pub wanted : Stage → What
wanted Start = what.Sense
wanted ObjectiveFirst = what.SubjectTo
wanted ObjectiveLabel = what.SubjectTo
wanted ObjectiveBegin = what.SubjectTo
wanted ObjectiveSigned = what.Term
wanted ObjectiveNumber = what.SubjectTo
wanted ObjectiveTerm = what.SubjectTo
wanted SubjectHeading = what.To
wanted UncertaintyHeading = what.SubjectTo
wanted RowsBegin = what.Section
wanted RowLabel = what.Term
wanted RowSigned = what.Term
wanted RowNumber = what.Name
wanted RowTerm = what.Relation
wanted RowRelation = what.Number
wanted RowEnd = what.Section
wanted BoundsBegin = what.Section
wanted BoundSigned = what.Number
wanted BoundValue = what.Relation
wanted BoundTurned = what.Name
wanted BoundNamed = what.Section
wanted BoundName = what.Relation
wanted BoundRelation = what.Number
wanted BoundEnd = what.Section
wanted (Names list) = what.Section
wanted Ended = what.TextEnd

-- what is said of a token that may not follow; END may not where ORDER wasn't there
unfoldable pub missing : Stage → Word → What
missing stage (Reserved keyword.End) = if may_end stage then what.Order else wanted stage
missing stage word = wanted stage

unfoldable pub expected : Stage → Symbol → What
expected stage symbol = if fits_line stage symbol then missing stage symbol.word else what.LineEnd
