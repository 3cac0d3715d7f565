-- What is read as a heading or a colon is written so.
use Rattle.std.proofs.Common.{◌≡◌, ℕ, ◌<◌, length, Bool, true, List, [], ◌∷◌, refl, arith, inl, inr}
use Rattle.std.specs.Prelude.{Ok}
use Rattle.qm_lex.specs.declared.place.Place.{Place}
use Rattle.qm_lex.specs.declared.token.Keyword.TheVariants as keyword
use Rattle.qm_parse.specs.declared.ast.Ast.{Ast}
use Rattle.qm_parse.specs.declared.draft.Draft.{Draft}
use Rattle.qm_parse.specs.declared.stage.Seen.{Seen}
use Rattle.qm_parse.specs.declared.stage.Stage.TheVariants.{ObjectiveLabel, ObjectiveBegin, SubjectHeading, UncertaintyHeading, RowLabel, RowSigned, RowsBegin}
use Rattle.qm_parse.specs.declared.word.Symbol.{Symbol}
use Rattle.qm_parse.specs.declared.word.Word.{Word}
use Rattle.qm_parse.specs.declared.word.Word.TheVariants.{Name, Colon, Keyword as Reserved}
use Rattle.qm_parse.specs.Drafts.{noted}
use Rattle.qm_parse.specs.Parts.{Part, Label, RowsHeading, Says}
use Rattle.qm_parse.specs.Reading.{finished, read}
use Rattle.qm_parse.specs.Stages.{may_end, moved, step}
use Rattle.qm_parse.proofs.WrittenSteps.{state, symbol, Goes, goes, goes_to, Past, past_one}

-- the part was read, and the draft is as it was
abbrev pub PartFound : Part → Draft → List Symbol → Draft → List Symbol → Type 0
PartFound Spelled before symbols after rest = Spelled symbols rest × (after ≡ before)

-- the label that a name and a colon are
pub label_of : (n : ℕ) (place : Place) (line : Bool) (symbols rest : List Symbol) → Says Colon symbols rest → Label (symbol (Name n true) place line ∷ symbols) rest
label_of n place line symbols rest colon = (n, place, (symbols, ((true, refl), refl, refl), colon))

row_colon_by_word : (word : Word) (place : Place) (line : Bool) (seen : Seen) (before : Draft) (symbols : List Symbol) (end : Place) (ast : Ast)
    → Goes RowLabel seen before (symbol word place line) symbols end ast
    → Past RowSigned seen (PartFound (Says Colon) before (symbol word place line ∷ symbols)) (symbol word place line ∷ symbols) end ast
unfolding moved step may_end noted
row_colon_by_word Colon place line seen before symbols end ast g =
    let first = symbol Colon place line in
    past_one RowSigned seen (PartFound (Says Colon) before (first ∷ symbols)) before first symbols end ast ((refl, refl), refl)
    (goes_to RowLabel seen before first symbols end ast g (state RowSigned seen) refl)
row_colon_by_word word place line seen before symbols end ast g = absurd (let e = g.moves in cc)

pub row_colon_read : (seen : Seen) (before : Draft) (symbols : List Symbol) (end : Place) (ast : Ast)
    → read (state RowLabel seen) before symbols end ≡ Ok ast → Past RowSigned seen (PartFound (Says Colon) before symbols) symbols end ast
unfolding read finished
row_colon_read seen before [] end ast e = absurd cc
row_colon_read seen before (first ∷ symbols) end ast e =
    row_colon_by_word first.word first.place first.begins_line seen before symbols end ast (goes RowLabel seen before first symbols end ast e)

colon_by_word : (word : Word) (place : Place) (line : Bool) (seen : Seen) (before : Draft) (symbols : List Symbol) (end : Place) (ast : Ast)
    → Goes ObjectiveLabel seen before (symbol word place line) symbols end ast
    → Past ObjectiveBegin seen (PartFound (Says Colon) before (symbol word place line ∷ symbols)) (symbol word place line ∷ symbols) end ast
unfolding moved step may_end noted
colon_by_word Colon place line seen before symbols end ast g =
    let first = symbol Colon place line in
    past_one ObjectiveBegin seen (PartFound (Says Colon) before (first ∷ symbols)) before first symbols end ast ((refl, refl), refl)
    (goes_to ObjectiveLabel seen before first symbols end ast g (state ObjectiveBegin seen) refl)
colon_by_word word place line seen before symbols end ast g = absurd (let e = g.moves in cc)

pub colon_read : (seen : Seen) (before : Draft) (symbols : List Symbol) (end : Place) (ast : Ast)
    → read (state ObjectiveLabel seen) before symbols end ≡ Ok ast → Past ObjectiveBegin seen (PartFound (Says Colon) before symbols) symbols end ast
unfolding read finished
colon_read seen before [] end ast e = absurd cc
colon_read seen before (first ∷ symbols) end ast e =
    colon_by_word first.word first.place first.begins_line seen before symbols end ast (goes ObjectiveLabel seen before first symbols end ast e)

to_by_word : (word : Word) (place : Place) (line : Bool) (seen : Seen) (before : Draft) (symbols : List Symbol) (end : Place) (ast : Ast)
    → Goes SubjectHeading seen before (symbol word place line) symbols end ast
    → Past RowsBegin seen (PartFound (Says (Reserved keyword.To)) before (symbol word place line ∷ symbols)) (symbol word place line ∷ symbols) end ast
unfolding moved step may_end noted
to_by_word (Reserved keyword.To) place line seen before symbols end ast g =
    let first = symbol (Reserved keyword.To) place line in
    past_one RowsBegin seen (PartFound (Says (Reserved keyword.To)) before (first ∷ symbols)) before first symbols end ast ((refl, refl), refl)
    (goes_to SubjectHeading seen before first symbols end ast g (state RowsBegin seen) refl)
to_by_word word place line seen before symbols end ast g = absurd (let e = g.moves in cc)

to_read : (seen : Seen) (before : Draft) (symbols : List Symbol) (end : Place) (ast : Ast)
    → read (state SubjectHeading seen) before symbols end ≡ Ok ast → Past RowsBegin seen (PartFound (Says (Reserved keyword.To)) before symbols) symbols end ast
unfolding read finished
to_read seen before [] end ast e = absurd cc
to_read seen before (first ∷ symbols) end ast e =
    to_by_word first.word first.place first.begins_line seen before symbols end ast (goes SubjectHeading seen before first symbols end ast e)

-- SUBJECT TO, where SUBJECT was read
pub subject_to : (place : Place) (line : Bool) (seen : Seen) (before : Draft) (symbols : List Symbol) (end : Place) (ast : Ast)
    → read (state SubjectHeading seen) before symbols end ≡ Ok ast
    → Past RowsBegin seen (PartFound RowsHeading before (symbol (Reserved keyword.Subject) place line ∷ symbols)) (symbol (Reserved keyword.Subject) place line ∷ symbols) end ast
subject_to place line seen before symbols end ast e =
    let p = to_read seen before symbols end ast e in
    record {
      draft = p.draft;
      rest = p.rest;
      shorter = (let h : length p.rest < length symbols = p.shorter in omega arith);
      found = (inl (symbols, (refl, refl), p.found.0), p.found.1);
      reads = p.reads;
    }

-- ST
pub st : (place : Place) (line : Bool) (seen : Seen) (before : Draft) (symbols : List Symbol) (end : Place) (ast : Ast)
    → read (state RowsBegin seen) before symbols end ≡ Ok ast
    → Past RowsBegin seen (PartFound RowsHeading before (symbol (Reserved keyword.St) place line ∷ symbols)) (symbol (Reserved keyword.St) place line ∷ symbols) end ast
st place line seen before symbols end ast e =
    let first = symbol (Reserved keyword.St) place line in
    past_one RowsBegin seen (PartFound RowsHeading before (first ∷ symbols)) before first symbols end ast (inr (refl, refl), refl) e

heading_by_word : (word : Word) (place : Place) (line : Bool) (seen : Seen) (before : Draft) (symbols : List Symbol) (end : Place) (ast : Ast)
    → Goes UncertaintyHeading seen before (symbol word place line) symbols end ast
    → Past RowsBegin seen (PartFound RowsHeading before (symbol word place line ∷ symbols)) (symbol word place line ∷ symbols) end ast
unfolding moved step may_end noted
heading_by_word (Reserved keyword.Subject) place line seen before symbols end ast g =
    subject_to place line seen before symbols end ast
    (goes_to UncertaintyHeading seen before (symbol (Reserved keyword.Subject) place line) symbols end ast g (state SubjectHeading seen) refl)
heading_by_word (Reserved keyword.St) place line seen before symbols end ast g =
    st place line seen before symbols end ast
    (goes_to UncertaintyHeading seen before (symbol (Reserved keyword.St) place line) symbols end ast g (state RowsBegin seen) refl)
heading_by_word word place line seen before symbols end ast g = absurd (let e = g.moves in cc)

pub heading_read : (seen : Seen) (before : Draft) (symbols : List Symbol) (end : Place) (ast : Ast)
    → read (state UncertaintyHeading seen) before symbols end ≡ Ok ast → Past RowsBegin seen (PartFound RowsHeading before symbols) symbols end ast
unfolding read finished
heading_read seen before [] end ast e = absurd cc
heading_read seen before (first ∷ symbols) end ast e =
    heading_by_word first.word first.place first.begins_line seen before symbols end ast (goes UncertaintyHeading seen before first symbols end ast e)
