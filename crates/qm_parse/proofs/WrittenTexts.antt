-- What is read as a text is written so.
use Rattle.std.proofs.Common.{◌≡◌, ℕ, Bool, true, false, List, [], ◌∷◌, map, refl, sym, ap, subst, ◌∙◌, ◌⊎◌, inl, inr}
use Rattle.std.specs.Prelude.{Ok, Contains, fold}
use Rattle.qm_lex.specs.declared.place.Place.{Place}
use Rattle.qm_lex.specs.declared.token.Keyword.TheVariants as keyword
use Rattle.qm_model.specs.declared.game.Sense.{Sense}
use Rattle.qm_model.specs.declared.game.Sense.TheVariants.{Max, Min}
use Rattle.qm_parse.specs.declared.ast.Ast.{Ast}
use Rattle.qm_parse.specs.declared.ast.AstRow.{AstRow}
use Rattle.qm_parse.specs.declared.ast.AstTerm.{AstTerm}
use Rattle.qm_parse.specs.declared.stage.NameList.TheVariants.{Generals, Binaries, Exists, All, Order}
use Rattle.qm_parse.specs.declared.stage.Section.{Section}
use Rattle.qm_parse.specs.declared.stage.Section.TheVariants as section
use Rattle.qm_parse.specs.declared.stage.Stage.TheVariants.{Start, ObjectiveFirst}
use Rattle.qm_parse.specs.declared.word.Symbol.{Symbol}
use Rattle.qm_parse.specs.declared.word.Word.{Word}
use Rattle.qm_parse.specs.declared.word.Word.TheVariants.{Keyword as Reserved}
use Rattle.qm_parse.specs.Drafts.{noted, sense_of, start_noted, with_sense}
use Rattle.qm_parse.specs.Parts.{SenseWord}
use Rattle.qm_parse.specs.Reading.{empty_ast, empty_draft, finished, read, start}
use Rattle.qm_parse.specs.Stages.{may_end, moved, step}
use Rattle.qm_parse.specs.Texts.{IsText, Written, section_written, with_written}
use Rattle.qm_parse.proofs.WrittenSteps.{state, symbol, Goes, goes, goes_to, IsClean}
use Rattle.qm_parse.proofs.WrittenObjectives.{objective_read, with_terms}
use Rattle.qm_parse.proofs.WrittenRows.{rows_read, with_rows}
use Rattle.qm_parse.proofs.WrittenSections.{AreEmpty, is_empty, sections_read}

-- nothing was read of sections where they begin
front_empty : (names : List (List ℕ)) (sense : Sense) (terms : List AstTerm) (rows : List AstRow) (part : Section)
    → is_empty (record (empty_ast names) { sense = sense; objective = terms; rows = rows }) part
unfolding empty_ast
front_empty names sense terms rows section.Uncertainty = refl
front_empty names sense terms rows section.Bounds = refl
front_empty names sense terms rows (section.Names Generals) = refl
front_empty names sense terms rows (section.Names Binaries) = refl
front_empty names sense terms rows (section.Names Exists) = refl
front_empty names sense terms rows (section.Names All) = refl
front_empty names sense terms rows (section.Names Order) = refl

-- the tree of the objective and the rows
front_read : (names : List (List ℕ)) (sense : Sense) (terms : List AstTerm) (rows : List AstRow) (objective behind : Ast)
    → objective ≡ with_terms terms (record (empty_ast names) { sense = sense }) → behind ≡ with_rows false rows objective
    → behind ≡ record (empty_ast names) { sense = sense; objective = terms; rows = rows }
unfolding empty_ast
front_read names sense terms rows objective behind e f = f ∙ ap (λ (a : Ast). with_rows false rows a) e

sections_from : (parts : List Written) (one other ast : Ast) → ast ≡ fold with_written one parts → one ≡ other → ast ≡ fold with_written other parts
sections_from parts one other ast e same = e ∙ ap (λ (a : Ast). fold with_written a parts) same

order_among : (sections : List Written) → (start.seen.order ≡ true) ⊎ Contains (map section_written sections) (section.Names Order)
    → Contains (map section_written sections) (section.Names Order)
unfolding start
order_among sections (inl e) = absurd cc
order_among sections (inr c) = c

-- behind the sense
behind_sense : (names : List (List ℕ)) (sense : Sense) (first : Symbol) (symbols : List Symbol) (end : Place) (ast : Ast)
    → SenseWord sense (first ∷ symbols) symbols → read (state ObjectiveFirst start.seen) (with_sense sense (empty_draft names)) symbols end ≡ Ok ast
    → IsText names (first ∷ symbols) ast
unfolding start with_sense empty_draft empty_ast
behind_sense names sense first symbols end ast spelled e =
    let p = objective_read start.seen (with_sense sense (empty_draft names)) symbols end ast refl e in
    let clean : IsClean p.draft = record { terms = p.found.2.terms; plain = p.found.2.plain } in
    let r = rows_read start.seen p.draft p.rest end ast clean p.reads in
    let front : Ast = record (empty_ast names) { sense = sense; objective = p.found.0; rows = r.rows } in
    let tree : r.draft.ast ≡ front = front_read names sense p.found.0 r.rows p.draft.ast r.draft.ast p.found.2.ast r.tree in
    let none : AreEmpty start.seen r.draft.ast = record { empty = λ part h. subst (λ (a : Ast). is_empty a part) (sym tree) (front_empty names sense p.found.0 r.rows part) } in
    let s = sections_read start.seen r.draft r.rest end ast r.clean none r.follows in
    let objective = p.found.1 in
    record {
      text = record { sense = sense; objective = p.found.0; rows = r.rows; sections = s.parts };
      spelled = (symbols, spelled, (objective.0, objective.1, (p.rest, objective.2, (r.rest, r.written, (s.last, s.spelled, s.ended)))));
      sections = record { once = s.once; ordered = order_among s.parts s.ordered };
      tree = sections_from s.parts r.draft.ast front ast s.tree tree;
    }

sense_by_word : (word : Word) (place : Place) (line : Bool) (names : List (List ℕ)) (symbols : List Symbol) (end : Place) (ast : Ast)
    → Goes Start start.seen (empty_draft names) (symbol word place line) symbols end ast → IsText names (symbol word place line ∷ symbols) ast
unfolding moved step may_end noted start_noted sense_of
sense_by_word (Reserved keyword.Maximize) place line names symbols end ast g =
    let first = symbol (Reserved keyword.Maximize) place line in
    behind_sense names Max first symbols end ast (inl (refl, refl)) (goes_to Start start.seen (empty_draft names) first symbols end ast g (state ObjectiveFirst start.seen) refl)
sense_by_word (Reserved keyword.Max) place line names symbols end ast g =
    let first = symbol (Reserved keyword.Max) place line in
    behind_sense names Max first symbols end ast (inr (refl, refl)) (goes_to Start start.seen (empty_draft names) first symbols end ast g (state ObjectiveFirst start.seen) refl)
sense_by_word (Reserved keyword.Minimize) place line names symbols end ast g =
    let first = symbol (Reserved keyword.Minimize) place line in
    behind_sense names Min first symbols end ast (inl (refl, refl)) (goes_to Start start.seen (empty_draft names) first symbols end ast g (state ObjectiveFirst start.seen) refl)
sense_by_word (Reserved keyword.Min) place line names symbols end ast g =
    let first = symbol (Reserved keyword.Min) place line in
    behind_sense names Min first symbols end ast (inr (refl, refl)) (goes_to Start start.seen (empty_draft names) first symbols end ast g (state ObjectiveFirst start.seen) refl)
sense_by_word word place line names symbols end ast g = absurd (let e = g.moves in cc)

pub text_read : (names : List (List ℕ)) (symbols : List Symbol) (end : Place) (ast : Ast)
    → read start (empty_draft names) symbols end ≡ Ok ast → IsText names symbols ast
unfolding read finished start
text_read names [] end ast e = absurd cc
text_read names (first ∷ symbols) end ast e =
    sense_by_word first.word first.place first.begins_line names symbols end ast (goes Start start.seen (empty_draft names) first symbols end ast e)
