-- What is a text is read, and gives its tree.
use Rattle.std.proofs.Common.{◌≡◌, ℕ, true, List, [], inl, inr, Some, Result, Ok, refl, sym, ap, ◌∙◌}
use Rattle.qm_lex.specs.declared.place.Place.{Place}
use Rattle.qm_lex.specs.declared.token.Keyword.{Keyword}
use Rattle.qm_lex.specs.declared.token.Keyword.TheVariants as keyword
use Rattle.qm_model.specs.declared.game.Sense.{Sense}
use Rattle.qm_model.specs.declared.game.Sense.TheVariants.{Max, Min}
use Rattle.qm_parse.specs.declared.ast.Ast.{Ast}
use Rattle.qm_parse.specs.declared.draft.Draft.{Draft}
use Rattle.qm_parse.specs.declared.stage.Seen.{Seen}
use Rattle.qm_parse.specs.declared.stage.Stage.{Stage}
use Rattle.qm_parse.specs.declared.stage.Stage.TheVariants as stage
use Rattle.qm_parse.specs.declared.unread.Unread.{Unread}
use Rattle.qm_parse.specs.declared.word.Symbol.{Symbol}
use Rattle.qm_parse.specs.declared.word.Word.TheVariants.{Keyword as Reserved}
use Rattle.qm_parse.specs.Drafts.{noted, sense_of, start_noted, with_sense}
use Rattle.qm_parse.specs.Parts.{Each, ObjectiveOf, RowOf, RowsHeading, Says, SenseWord}
use Rattle.qm_parse.specs.Reading.{empty_ast, empty_draft, finished, leaves, read, start}
use Rattle.qm_parse.specs.Stages.{followed, may_share_line, step}
use Rattle.qm_parse.specs.Texts.{AreSections, IsText, KnowColons, SectionOf, TextOf, WrittenText, ast_of}
use Rattle.qm_parse.proofs.ReadSteps.{GoesOn, goes_then, reads_on, state_at}
use Rattle.qm_parse.proofs.ReadWords.{says_goes}
use Rattle.qm_parse.proofs.ReadRows.{IsBetween, rows_begin, rows_go}
use Rattle.qm_parse.proofs.ReadObjectives.{objective_goes}
use Rattle.qm_parse.proofs.ReadBounds.{PartEnds}
use Rattle.qm_parse.proofs.ReadSections.{Untouched, any_fits, are_new_first, keyword_reads, ordered_at, rows_end, seen_behind, sections_go}

abbrev sense_ast : List (List ℕ) → Sense → Ast
sense_ast names sense = record (empty_ast names) { sense = sense }

sense_is : (names : List (List ℕ)) (word : Keyword) (sense : Sense) (at : Place) → sense_of word ≡ sense → IsBetween (sense_ast names sense) (noted stage.Start start.seen.uncertainty (Reserved word) at (empty_draft names))
unfolding noted start_noted with_sense empty_draft empty_ast
sense_is names word sense at same = record { ast_is = ap (λ s. record (empty_ast names) { sense = s }) same; terms_are = refl; sign_is = refl }

-- a word that tells the sense
sense_word_goes : (names : List (List ℕ)) (word : Keyword) (sense : Sense) (symbols rest : List Symbol) → sense_of word ≡ sense → step stage.Start (Reserved word) ≡ Some stage.ObjectiveFirst → KnowColons symbols
    → Says (Reserved word) symbols rest → GoesOn start.seen stage.Start (empty_draft names) symbols stage.ObjectiveFirst (IsBetween (sense_ast names sense)) rest
unfolding may_share_line leaves
sense_word_goes names word sense symbols rest same steps colons says =
    says_goes start.seen stage.Start stage.ObjectiveFirst (empty_draft names) (Reserved word) symbols rest (IsBetween (sense_ast names sense)) colons refl steps refl (λ at. sense_is names word sense at same) says

sense_goes : (names : List (List ℕ)) (sense : Sense) (symbols rest : List Symbol) → KnowColons symbols → SenseWord sense symbols rest
    → GoesOn start.seen stage.Start (empty_draft names) symbols stage.ObjectiveFirst (IsBetween (sense_ast names sense)) rest
unfolding step sense_of
sense_goes names Max symbols rest colons (inl says) = sense_word_goes names keyword.Maximize Max symbols rest refl refl colons says
sense_goes names Max symbols rest colons (inr says) = sense_word_goes names keyword.Max Max symbols rest refl refl colons says
sense_goes names Min symbols rest colons (inl says) = sense_word_goes names keyword.Minimize Min symbols rest refl refl colons says
sense_goes names Min symbols rest colons (inr says) = sense_word_goes names keyword.Min Min symbols rest refl refl colons says

-- the tree before the sections
abbrev rows_ast : List (List ℕ) → WrittenText → Ast
rows_ast names text = record (empty_ast names) { sense = text.sense; objective = text.objective; rows = text.rows }

rows_read : (names : List (List ℕ)) (text : WrittenText) → Untouched start.seen (rows_ast names text)
unfolding start empty_ast
rows_read names text = record { uncertain = λ e. refl; bounds = λ e. refl; generals = λ e. refl; binaries = λ e. refl; existential = λ e. refl; universal = λ e. refl; order = λ e. refl }

end_follows : (seen : Seen) → seen.order ≡ true → followed seen (Reserved keyword.End) ≡ Some (state_at stage.Ended seen)
unfolding followed
end_follows seen e = rw e refl

-- END, and nothing behind it
end_reads : (s : Stage) (seen : Seen) (ast : Ast) (draft : Draft) (symbols : List Symbol) (end : Place) → PartEnds s → IsBetween ast draft → seen.order ≡ true → Says (Reserved keyword.End) symbols []
    → read (state_at s seen) draft symbols end ≡ Ok ast
unfolding read finished
end_reads s seen ast draft symbols end ends is ordered says =
    keyword_reads s seen draft keyword.End (state_at stage.Ended seen) symbols [] ends (end_follows seen ordered) says end ∙ ap (λ (a : Ast). Ok a) is.ast_is

-- the tree before the rows
abbrev objective_ast : List (List ℕ) → WrittenText → Ast
objective_ast names text = record (empty_ast names) { sense = text.sense; objective = text.objective }

objective_part : (names : List (List ℕ)) (text : WrittenText) (symbols b c d : List Symbol) → KnowColons symbols → SenseWord text.sense symbols b → ObjectiveOf text.objective b c → RowsHeading c d
    → GoesOn start.seen stage.Start (empty_draft names) symbols stage.RowsBegin (IsBetween (objective_ast names text)) d
unfolding empty_ast
objective_part names text symbols b c d colons sense objective heading =
    goes_then start.seen stage.Start stage.ObjectiveFirst stage.RowsBegin (empty_draft names) symbols b d (IsBetween (sense_ast names text.sense)) (IsBetween (objective_ast names text))
    (sense_goes names text.sense symbols b colons sense)
    (λ draft is known. objective_goes start.seen (sense_ast names text.sense) text.objective draft b c d is known objective heading)

-- the rows were read, and a section or END may follow
abbrev RowsRead : List (List ℕ) → WrittenText → List Symbol → List Symbol → Type 0
RowsRead names text symbols rest =
    (next : Stage) × PartEnds next × GoesOn start.seen stage.Start (empty_draft names) symbols next (IsBetween (rows_ast names text)) rest

rows_part : (names : List (List ℕ)) (text : WrittenText) (symbols between rest : List Symbol)
    → GoesOn start.seen stage.Start (empty_draft names) symbols stage.RowsBegin (IsBetween (objective_ast names text)) between → Each RowOf text.rows between rest → RowsRead names text symbols rest
unfolding start empty_ast may_share_line
rows_part names text symbols between rest (draft, is, known, reads) rows =
    let (next, where_next, (behind, behind_is, last, further)) =
    rows_go start.seen (objective_ast names text) stage.RowsBegin text.rows draft between rest rows_begin is known (any_fits stage.RowsBegin between (λ w. refl)) rows in
    (next, rows_end next where_next, (behind, behind_is, last, reads_on (state_at stage.Start start.seen) (state_at stage.RowsBegin start.seen) (state_at next start.seen) (empty_draft names) draft behind symbols between rest reads further))

sections_part : (names : List (List ℕ)) (text : WrittenText) (symbols between rest : List Symbol) (end : Place) → AreSections text.sections → RowsRead names text symbols between
    → Each SectionOf text.sections between rest → Says (Reserved keyword.End) rest [] → read (state_at stage.Start start.seen) (empty_draft names) symbols end ≡ Ok (ast_of names text)
sections_part names text symbols between rest end judged (s, ends, (draft, is, known, reads)) sections says =
    let (last, last_ends, behind, behind_is, behind_known, further) =
    sections_go start.seen (rows_ast names text) s text.sections draft between rest ends is known (are_new_first text.sections judged.once) (rows_read names text) sections in
    let ordered = ordered_at start.seen text.sections judged.ordered.0 judged.ordered.1 judged.ordered.2 in
    let closed = end_reads last (seen_behind start.seen text.sections) (ast_of names text) behind rest end last_ends behind_is ordered says in
    ◌∙◌ {b = read (state_at s start.seen) draft between end} (reads end)
    (◌∙◌ {b = read (state_at last (seen_behind start.seen text.sections)) behind rest end} (further end) closed)

text_is_read : (names : List (List ℕ)) (text : WrittenText) (symbols : List Symbol) (end : Place) → KnowColons symbols → TextOf text symbols [] → AreSections text.sections
    → read (state_at stage.Start start.seen) (empty_draft names) symbols end ≡ Ok (ast_of names text)
text_is_read names text symbols end colons (b, sense, (c, objective, (d, heading, (e, rows, (f, sections, says))))) judged =
    sections_part names text symbols e f end judged (rows_part names text symbols d e (objective_part names text symbols b c d colons sense objective heading) rows) sections says

pub text_reads : (names : List (List ℕ)) (symbols : List Symbol) (ast : Ast) (end : Place) → KnowColons symbols → IsText names symbols ast → read start (empty_draft names) symbols end ≡ Ok ast
unfolding start
text_reads names symbols ast end colons is = text_is_read names is.text symbols end colons is.spelled is.sections ∙ ap (λ (a : Ast). Ok a) (sym is.tree)

abbrev read_ok : Ast → Result Ast Unread
read_ok ast = Ok ast

ok_is : (one other : Ast) → read_ok one ≡ read_ok other → one ≡ other
ok_is one other e = cc

-- two trees of one list of symbols are the same
pub trees_same : (names : List (List ℕ)) (symbols : List Symbol) (one other : Ast) → KnowColons symbols → IsText names symbols one → IsText names symbols other → one ≡ other
trees_same names symbols one other colons first second =
    let end : Place = record { line = 1; column = 1 } in
    ok_is one other (sym (text_reads names symbols one end colons first) ∙ text_reads names symbols other end colons second)
