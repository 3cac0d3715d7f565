-- From each state some further symbols end the text.
use Rattle.std.proofs.Common.{◌≡◌, ℕ, Bool, true, false, List, [], ◌∷◌, inr, Some, None, Ok, if◌then◌else◌, refl, sym, ap, ◌∙◌}
use Rattle.qm_lex.specs.declared.place.Place.{Place}
use Rattle.qm_lex.specs.declared.token.Keyword.{Keyword}
use Rattle.qm_lex.specs.declared.token.Keyword.TheVariants as keyword
use Rattle.qm_parse.specs.declared.ast.Ast.{Ast}
use Rattle.qm_parse.specs.declared.ast.Relation.TheVariants.{Less}
use Rattle.qm_parse.specs.declared.draft.Draft.{Draft}
use Rattle.qm_parse.specs.declared.stage.NameList.TheVariants.{Order}
use Rattle.qm_parse.specs.declared.stage.Section.TheVariants as section
use Rattle.qm_parse.specs.declared.stage.Seen.{Seen}
use Rattle.qm_parse.specs.declared.stage.Stage.{Stage}
use Rattle.qm_parse.specs.declared.stage.Stage.TheVariants as stage
use Rattle.qm_parse.specs.declared.stage.State.{State}
use Rattle.qm_parse.specs.declared.word.Symbol.{Symbol}
use Rattle.qm_parse.specs.declared.word.Word.{Word}
use Rattle.qm_parse.specs.declared.word.Word.TheVariants.{Name, Number, Related, Colon, Keyword as Reserved, Free}
use Rattle.qm_parse.specs.Drafts.{noted, one}
use Rattle.qm_parse.specs.Reading.{finished, leaves, read}
use Rattle.qm_parse.specs.Stages.{begun, begun_by, followed, has, moved, objective_begun, section_of, stage_of, step, with_section}
use Rattle.qm_parse.specs.Texts.{KnowColons, KnowsColon, is_colon_next}
use Rattle.qm_parse.proofs.ReadSteps.{reads_symbol, state_at}
use Rattle.qm_parse.proofs.ReadBounds.{PartEnds, bound_end_ends, bound_named_ends, bounds_begin_ends, names_ends, row_end_ends, rows_begin_ends}
use Rattle.qm_parse.proofs.ReadSections.{keyword_reads}
use Rattle.qm_parse.proofs.Beginnings.{is_label, next_by, next_state-by}

-- a token on a line of its own
abbrev pub written_as : Word → Symbol
written_as word = record { word = word; place = record { line = 1; column = 1 }; begins_line = true }

-- END, behind ORDER where that wasn't there
abbrev pub closing : Bool → List Symbol
closing true = written_as (Reserved keyword.End) ∷ []
closing false = written_as (Reserved keyword.Order) ∷ written_as (Reserved keyword.End) ∷ []

abbrev name_word : Word
name_word = Name 0 false

-- tokens that end the text behind a stage
abbrev pub ending : Stage → Bool → List Symbol
ending stage.Start order = written_as (Reserved keyword.Max) ∷ written_as (Reserved keyword.St) ∷ closing order
ending stage.ObjectiveFirst order = written_as (Reserved keyword.St) ∷ closing order
ending stage.ObjectiveLabel order = written_as Colon ∷ written_as (Reserved keyword.St) ∷ closing order
ending stage.ObjectiveBegin order = written_as (Reserved keyword.St) ∷ closing order
ending stage.ObjectiveSigned order = written_as (Number (Some one)) ∷ written_as (Reserved keyword.St) ∷ closing order
ending stage.ObjectiveNumber order = written_as (Reserved keyword.St) ∷ closing order
ending stage.ObjectiveTerm order = written_as (Reserved keyword.St) ∷ closing order
ending stage.SubjectHeading order = written_as (Reserved keyword.To) ∷ closing order
ending stage.UncertaintyHeading order = written_as (Reserved keyword.St) ∷ closing order
ending stage.RowsBegin order = closing order
ending stage.RowLabel order = written_as Colon ∷ written_as name_word ∷ written_as (Related Less) ∷ written_as (Number (Some one)) ∷ closing order
ending stage.RowSigned order = written_as name_word ∷ written_as (Related Less) ∷ written_as (Number (Some one)) ∷ closing order
ending stage.RowNumber order = written_as name_word ∷ written_as (Related Less) ∷ written_as (Number (Some one)) ∷ closing order
ending stage.RowTerm order = written_as (Related Less) ∷ written_as (Number (Some one)) ∷ closing order
ending stage.RowRelation order = written_as (Number (Some one)) ∷ closing order
ending stage.RowEnd order = closing order
ending stage.BoundsBegin order = closing order
ending stage.BoundSigned order = written_as (Number (Some one)) ∷ written_as (Related Less) ∷ written_as name_word ∷ closing order
ending stage.BoundValue order = written_as (Related Less) ∷ written_as name_word ∷ closing order
ending stage.BoundTurned order = written_as name_word ∷ closing order
ending stage.BoundNamed order = closing order
ending stage.BoundName order = written_as Free ∷ closing order
ending stage.BoundRelation order = written_as (Number (Some one)) ∷ closing order
ending stage.BoundEnd order = closing order
ending (stage.Names list) order = closing order
ending stage.Ended order = []

-- ---- they are read

abbrev pub AreRead : State → List Symbol → Type 0
AreRead state symbols = (draft : Draft) (end : Place) → (ast : Ast) × (read state draft symbols end ≡ Ok ast)

read_further : (state next : State) (word : Word) (more : List Symbol) → next_by state true word ≡ Some next → leaves word ≡ false → AreRead next more → AreRead state (written_as word ∷ more)
read_further state next word more moves stays others = λ draft end.
    let behind = others (noted state.stage state.seen.uncertainty word (record { line = 1; column = 1 }) draft) end in
    (behind.0, reads_symbol state next draft (written_as word) more (next_state-by state (written_as word) ∙ moves) stays end ∙ behind.1)

ended_read : (seen : Seen) → AreRead (state_at stage.Ended seen) []
unfolding read finished
ended_read seen = λ draft end. (draft.ast, refl)

end_read : (s : Stage) (seen : Seen) → PartEnds s → seen.order ≡ true → AreRead (state_at s seen) (closing true)
unfolding followed
end_read s seen ends ordered = λ draft end.
    let behind = ended_read seen draft end in
    (behind.0, keyword_reads s seen draft keyword.End (state_at stage.Ended seen) (closing true) [] ends (ap (λ b. if b then Some (state_at stage.Ended seen) else None) ordered) (refl, refl) end ∙ behind.1)

order_read : (s : Stage) (seen : Seen) → PartEnds s → seen.order ≡ false → AreRead (state_at s seen) (closing false)
unfolding followed section_of begun_by begun has stage_of with_section
order_read s seen ends ordered = λ draft end.
    let after = with_section seen (section.Names Order) in
    let behind = end_read (stage.Names Order) after (names_ends Order) refl draft end in (
      behind.0,
      keyword_reads s seen draft keyword.Order (state_at (stage.Names Order) after) (closing false) (closing true) ends
          (ap (λ b. if b then None else Some (state_at (stage.Names Order) after)) ordered) (refl, refl) end ∙ behind.1,
    )

closing_read : (s : Stage) (seen : Seen) → PartEnds s → (order : Bool) → seen.order ≡ order → AreRead (state_at s seen) (closing order)
closing_read s seen ends true ordered = end_read s seen ends ordered
closing_read s seen ends false ordered = order_read s seen ends ordered

closed : (s : Stage) (seen : Seen) → PartEnds s → AreRead (state_at s seen) (closing seen.order)
closed s seen ends = closing_read s seen ends seen.order refl

heading_read : (s : Stage) (seen : Seen) → next_by (state_at s seen) true (Reserved keyword.St) ≡ Some (state_at stage.RowsBegin seen)
    → AreRead (state_at s seen) (written_as (Reserved keyword.St) ∷ closing seen.order)
unfolding leaves
heading_read s seen moves = read_further (state_at s seen) (state_at stage.RowsBegin seen) (Reserved keyword.St) (closing seen.order) moves refl (closed stage.RowsBegin seen rows_begin_ends)

right_read : (seen : Seen) → AreRead (state_at stage.RowRelation seen) (ending stage.RowRelation seen.order)
unfolding leaves moved step
right_read seen = read_further (state_at stage.RowRelation seen) (state_at stage.RowEnd seen) (Number (Some one)) (closing seen.order) refl refl (closed stage.RowEnd seen row_end_ends)

sides_read : (seen : Seen) → AreRead (state_at stage.RowTerm seen) (ending stage.RowTerm seen.order)
unfolding leaves moved step
sides_read seen = read_further (state_at stage.RowTerm seen) (state_at stage.RowRelation seen) (Related Less) (ending stage.RowRelation seen.order) refl refl (right_read seen)

term_read : (s : Stage) (seen : Seen) → next_by (state_at s seen) true name_word ≡ Some (state_at stage.RowTerm seen) → AreRead (state_at s seen) (written_as name_word ∷ ending stage.RowTerm seen.order)
unfolding leaves
term_read s seen moves = read_further (state_at s seen) (state_at stage.RowTerm seen) name_word (ending stage.RowTerm seen.order) moves refl (sides_read seen)

bound_name_read : (seen : Seen) → AreRead (state_at stage.BoundTurned seen) (ending stage.BoundTurned seen.order)
unfolding leaves moved step
bound_name_read seen = read_further (state_at stage.BoundTurned seen) (state_at stage.BoundNamed seen) name_word (closing seen.order) refl refl (closed stage.BoundNamed seen bound_named_ends)

bound_value_read : (seen : Seen) → AreRead (state_at stage.BoundValue seen) (ending stage.BoundValue seen.order)
unfolding leaves moved step
bound_value_read seen = read_further (state_at stage.BoundValue seen) (state_at stage.BoundTurned seen) (Related Less) (ending stage.BoundTurned seen.order) refl refl (bound_name_read seen)

pub ending_read : (s : Stage) (seen : Seen) → AreRead (state_at s seen) (ending s seen.order)
unfolding leaves moved step objective_begun
ending_read stage.Start seen =
    read_further (state_at stage.Start seen) (state_at stage.ObjectiveFirst seen) (Reserved keyword.Max) (ending stage.ObjectiveFirst seen.order) refl refl (heading_read stage.ObjectiveFirst seen refl)
ending_read stage.ObjectiveFirst seen = heading_read stage.ObjectiveFirst seen refl
ending_read stage.ObjectiveLabel seen =
    read_further (state_at stage.ObjectiveLabel seen) (state_at stage.ObjectiveBegin seen) Colon (ending stage.ObjectiveBegin seen.order) refl refl (heading_read stage.ObjectiveBegin seen refl)
ending_read stage.ObjectiveBegin seen = heading_read stage.ObjectiveBegin seen refl
ending_read stage.ObjectiveSigned seen =
    read_further (state_at stage.ObjectiveSigned seen) (state_at stage.ObjectiveNumber seen) (Number (Some one)) (ending stage.ObjectiveNumber seen.order) refl refl (heading_read stage.ObjectiveNumber seen refl)
ending_read stage.ObjectiveNumber seen = heading_read stage.ObjectiveNumber seen refl
ending_read stage.ObjectiveTerm seen = heading_read stage.ObjectiveTerm seen refl
ending_read stage.SubjectHeading seen =
    read_further (state_at stage.SubjectHeading seen) (state_at stage.RowsBegin seen) (Reserved keyword.To) (closing seen.order) refl refl (closed stage.RowsBegin seen rows_begin_ends)
ending_read stage.UncertaintyHeading seen = heading_read stage.UncertaintyHeading seen refl
ending_read stage.RowsBegin seen = closed stage.RowsBegin seen rows_begin_ends
ending_read stage.RowLabel seen =
    read_further (state_at stage.RowLabel seen) (state_at stage.RowSigned seen) Colon (ending stage.RowSigned seen.order) refl refl (term_read stage.RowSigned seen refl)
ending_read stage.RowSigned seen = term_read stage.RowSigned seen refl
ending_read stage.RowNumber seen = term_read stage.RowNumber seen refl
ending_read stage.RowTerm seen = sides_read seen
ending_read stage.RowRelation seen = right_read seen
ending_read stage.RowEnd seen = closed stage.RowEnd seen row_end_ends
ending_read stage.BoundsBegin seen = closed stage.BoundsBegin seen bounds_begin_ends
ending_read stage.BoundSigned seen =
    read_further (state_at stage.BoundSigned seen) (state_at stage.BoundValue seen) (Number (Some one)) (ending stage.BoundValue seen.order) refl refl (bound_value_read seen)
ending_read stage.BoundValue seen = bound_value_read seen
ending_read stage.BoundTurned seen = bound_name_read seen
ending_read stage.BoundNamed seen = closed stage.BoundNamed seen bound_named_ends
ending_read stage.BoundName seen =
    read_further (state_at stage.BoundName seen) (state_at stage.BoundEnd seen) Free (closing seen.order) refl refl (closed stage.BoundEnd seen bound_end_ends)
ending_read stage.BoundRelation seen =
    read_further (state_at stage.BoundRelation seen) (state_at stage.BoundEnd seen) (Number (Some one)) (closing seen.order) refl refl (closed stage.BoundEnd seen bound_end_ends)
ending_read stage.BoundEnd seen = closed stage.BoundEnd seen bound_end_ends
ending_read (stage.Names list) seen = closed (stage.Names list) seen (names_ends list)
ending_read stage.Ended seen = ended_read seen

-- ---- their colons

-- a word that is no name
abbrev IsNoName : Word → Type 0
IsNoName word = (n : ℕ) (labels : Bool) → word ≡ Name n labels → ⊥

knows_no_name : (word : Word) (more : List Symbol) → IsNoName word → KnowsColon (written_as word) more
knows_no_name word more none = λ n labels is. absurd (none n labels is)

keyword_no_name : (reserved : Keyword) → IsNoName (Reserved reserved)
keyword_no_name reserved = λ n labels is. absurd cc

number_no_name : IsNoName (Number (Some one))
number_no_name = λ n labels is. absurd cc

relation_no_name : IsNoName (Related Less)
relation_no_name = λ n labels is. absurd cc

colon_no_name : IsNoName Colon
colon_no_name = λ n labels is. absurd cc

free_no_name : IsNoName Free
free_no_name = λ n labels is. absurd cc

abbrev labels_of : Word → Bool
labels_of (Name n labels) = labels
labels_of word = false

knows_name : (more : List Symbol) → ¬ is_colon_next more → KnowsColon (written_as name_word) more
knows_name more none = λ n labels is. inr (sym (ap labels_of is), none)

keyword_no_colon : (reserved : Keyword) → ¬ (Reserved reserved ≡ Colon)
keyword_no_colon reserved e = absurd cc

closing_no_colon : (order : Bool) → ¬ is_colon_next (closing order)
closing_no_colon true = keyword_no_colon keyword.End
closing_no_colon false = keyword_no_colon keyword.Order

end_colons : KnowColons (closing true)
end_colons = (knows_no_name (Reserved keyword.End) [] (keyword_no_name keyword.End), tt)

closing_colons : (order : Bool) → KnowColons (closing order)
closing_colons true = end_colons
closing_colons false = (knows_no_name (Reserved keyword.Order) (closing true) (keyword_no_name keyword.Order), end_colons)

heading_colons : (order : Bool) → KnowColons (written_as (Reserved keyword.St) ∷ closing order)
heading_colons order = (knows_no_name (Reserved keyword.St) (closing order) (keyword_no_name keyword.St), closing_colons order)

number_colons : (more : List Symbol) → KnowColons more → KnowColons (written_as (Number (Some one)) ∷ more)
number_colons more p = (knows_no_name (Number (Some one)) more number_no_name, p)

relation_colons : (more : List Symbol) → KnowColons more → KnowColons (written_as (Related Less) ∷ more)
relation_colons more p = (knows_no_name (Related Less) more relation_no_name, p)

related_no_colon : ¬ (Related Less ≡ Colon)
related_no_colon e = absurd cc

number_no_colon : ¬ (Number (Some one) ≡ Colon)
number_no_colon e = absurd cc

free_no_colon : ¬ (Free ≡ Colon)
free_no_colon e = absurd cc

name_no_colon : ¬ (name_word ≡ Colon)
name_no_colon e = absurd cc

sides_colons : (order : Bool) → KnowColons (ending stage.RowTerm order)
sides_colons order = relation_colons (ending stage.RowRelation order) (number_colons (closing order) (closing_colons order))

row_colons : (order : Bool) → KnowColons (ending stage.RowSigned order)
row_colons order = (knows_name (ending stage.RowTerm order) related_no_colon, sides_colons order)

bound_name_colons : (order : Bool) → KnowColons (ending stage.BoundTurned order)
bound_name_colons order = (knows_name (closing order) (closing_no_colon order), closing_colons order)

pub ending_colons : (s : Stage) (order : Bool) → KnowColons (ending s order)
ending_colons stage.Start order = (knows_no_name (Reserved keyword.Max) (ending stage.ObjectiveFirst order) (keyword_no_name keyword.Max), heading_colons order)
ending_colons stage.ObjectiveFirst order = heading_colons order
ending_colons stage.ObjectiveLabel order = (knows_no_name Colon (ending stage.ObjectiveBegin order) colon_no_name, heading_colons order)
ending_colons stage.ObjectiveBegin order = heading_colons order
ending_colons stage.ObjectiveSigned order = number_colons (ending stage.ObjectiveNumber order) (heading_colons order)
ending_colons stage.ObjectiveNumber order = heading_colons order
ending_colons stage.ObjectiveTerm order = heading_colons order
ending_colons stage.SubjectHeading order = (knows_no_name (Reserved keyword.To) (closing order) (keyword_no_name keyword.To), closing_colons order)
ending_colons stage.UncertaintyHeading order = heading_colons order
ending_colons stage.RowsBegin order = closing_colons order
ending_colons stage.RowLabel order = (knows_no_name Colon (ending stage.RowSigned order) colon_no_name, row_colons order)
ending_colons stage.RowSigned order = row_colons order
ending_colons stage.RowNumber order = row_colons order
ending_colons stage.RowTerm order = sides_colons order
ending_colons stage.RowRelation order = number_colons (closing order) (closing_colons order)
ending_colons stage.RowEnd order = closing_colons order
ending_colons stage.BoundsBegin order = closing_colons order
ending_colons stage.BoundSigned order = number_colons (ending stage.BoundValue order) (relation_colons (ending stage.BoundTurned order) (bound_name_colons order))
ending_colons stage.BoundValue order = relation_colons (ending stage.BoundTurned order) (bound_name_colons order)
ending_colons stage.BoundTurned order = bound_name_colons order
ending_colons stage.BoundNamed order = closing_colons order
ending_colons stage.BoundName order = (knows_no_name Free (closing order) free_no_name, closing_colons order)
ending_colons stage.BoundRelation order = number_colons (closing order) (closing_colons order)
ending_colons stage.BoundEnd order = closing_colons order
ending_colons (stage.Names list) order = closing_colons order
ending_colons stage.Ended order = tt

-- a colon stands first behind a label
pub ending_label : (s : Stage) (order : Bool) → is_label s ≡ true → is_colon_next (ending s order)
ending_label stage.ObjectiveLabel order e = refl
ending_label stage.RowLabel order e = refl
ending_label s order e = absurd cc

-- and nowhere else
pub ending_plain : (s : Stage) (order : Bool) → is_label s ≡ false → ¬ is_colon_next (ending s order)
ending_plain stage.Start order e = keyword_no_colon keyword.Max
ending_plain stage.ObjectiveFirst order e = keyword_no_colon keyword.St
ending_plain stage.ObjectiveLabel order e = absurd cc
ending_plain stage.ObjectiveBegin order e = keyword_no_colon keyword.St
ending_plain stage.ObjectiveSigned order e = number_no_colon
ending_plain stage.ObjectiveNumber order e = keyword_no_colon keyword.St
ending_plain stage.ObjectiveTerm order e = keyword_no_colon keyword.St
ending_plain stage.SubjectHeading order e = keyword_no_colon keyword.To
ending_plain stage.UncertaintyHeading order e = keyword_no_colon keyword.St
ending_plain stage.RowsBegin order e = closing_no_colon order
ending_plain stage.RowLabel order e = absurd cc
ending_plain stage.RowSigned order e = name_no_colon
ending_plain stage.RowNumber order e = name_no_colon
ending_plain stage.RowTerm order e = related_no_colon
ending_plain stage.RowRelation order e = number_no_colon
ending_plain stage.RowEnd order e = closing_no_colon order
ending_plain stage.BoundsBegin order e = closing_no_colon order
ending_plain stage.BoundSigned order e = number_no_colon
ending_plain stage.BoundValue order e = related_no_colon
ending_plain stage.BoundTurned order e = name_no_colon
ending_plain stage.BoundNamed order e = closing_no_colon order
ending_plain stage.BoundName order e = free_no_colon
ending_plain stage.BoundRelation order e = number_no_colon
ending_plain stage.BoundEnd order e = closing_no_colon order
ending_plain (stage.Names list) order e = closing_no_colon order
ending_plain stage.Ended order e = λ next. absurd next
