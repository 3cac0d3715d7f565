-- What is read as rows is written so.
use Rattle.std.proofs.Common.{◌≡◌, ℕ, zero, suc, ◌<◌, ◌≤◌, length, Bool, true, false, List, [], ◌∷◌, ◌++◌, Option, Some, None, refl, sym, ap, subst, arith, ◌∙◌, ◌⊎◌, inl, inr}
use Rattle.std.specs.Prelude.{if◌then◌else◌, Ok}
use Rattle.std.proofs.lemmas.List.{append_assoc, append-nil}
use Rattle.qm_math.specs.Fraction.{Fraction}
use Rattle.qm_lex.specs.declared.place.Place.{Place}
use Rattle.qm_parse.specs.declared.ast.Ast.{Ast}
use Rattle.qm_parse.specs.declared.ast.AstRow.{AstRow}
use Rattle.qm_parse.specs.declared.ast.AstTerm.{AstTerm}
use Rattle.qm_parse.specs.declared.draft.Draft.{Draft}
use Rattle.qm_parse.specs.declared.stage.Seen.{Seen}
use Rattle.qm_parse.specs.declared.stage.Stage.{Stage}
use Rattle.qm_parse.specs.declared.stage.Stage.TheVariants.{RowsBegin, RowLabel, RowSigned, RowTerm as InRowTerm, RowRelation, RowEnd}
use Rattle.qm_parse.specs.declared.word.Symbol.{Symbol}
use Rattle.qm_parse.specs.declared.word.Word.{Word}
use Rattle.qm_parse.specs.declared.word.Word.TheVariants.{Name, Number, Sign, Related, Keyword as Reserved}
use Rattle.qm_parse.specs.Drafts.{noted, right_noted, row_begin_noted, row_of, signed, signed_by, with_row, with_row_at}
use Rattle.qm_parse.specs.Parts.{◌then◌, Part, Each, Says, SignedNumber, RowOf, RowEnds, RowTerm, Terms, Multiple}
use Rattle.qm_parse.specs.Reading.{finished, leaves, read}
use Rattle.qm_parse.specs.Stages.{fits_line, followed, may_end, may_share_line, moved, row_begun, step}
use Rattle.qm_parse.proofs.WrittenSteps.{state, symbol, Goes, goes, goes_to, Past, past_before, past_one, SignedFrom, no_sign, one_sign, first_begins, any_line, number_body, IsClean, SectionFollows}
use Rattle.qm_parse.proofs.WrittenHeadings.{label_of, row_colon_read}
use Rattle.qm_parse.proofs.WrittenTerms.{RowTermFound, signed_by_word, signed_read, more_read}

-- the tree with further rows
abbrev pub with_rows : Bool → List AstRow → Ast → Ast
with_rows true rows ast = record ast { uncertain = ast.uncertain ++ rows }
with_rows false rows ast = record ast { rows = ast.rows ++ rows }

-- one more row
pub record AddsRow (uncertain : Bool) (before : Draft) (row : AstRow) (after : Draft) : Type 0 where
  pub ast : after.ast ≡ with_rows uncertain (row ∷ []) before.ast
  pub clean : IsClean after

-- the row of the terms that were read
abbrev pub row_read_of : Fraction → Draft → AstRow
row_read_of right draft = record { terms = draft.terms; relation = draft.relation; right = right; at = draft.row_at }

abbrev pub RightFound : Bool → Draft → List Symbol → Draft → List Symbol → Type 0
RightFound uncertain before symbols after rest =
    (right : Fraction) × SignedFrom before.negative (number_body right) symbols rest × AddsRow uncertain before (row_read_of right before) after

adds_row : (uncertain : Bool) (value : Fraction) (draft : Draft) → AddsRow uncertain draft (row_read_of (signed_by draft.negative value) draft) (with_row uncertain value draft)
unfolding with_row row_of
adds_row true value draft = record { ast = refl; clean = record { terms = refl; plain = refl } }
adds_row false value draft = record { ast = refl; clean = record { terms = refl; plain = refl } }

right_by_word : (word : Word) (place : Place) (line : Bool) (seen : Seen) (before : Draft) (symbols : List Symbol) (end : Place) (ast : Ast)
    → ((draft : Draft) → read (state RowRelation seen) draft symbols end ≡ Ok ast → Past RowEnd seen (RightFound seen.uncertainty draft symbols) symbols end ast)
    → Goes RowRelation seen before (symbol word place line) symbols end ast
    → Past RowEnd seen (RightFound seen.uncertainty before (symbol word place line ∷ symbols)) (symbol word place line ∷ symbols) end ast
unfolding moved step may_end noted right_noted signed leaves with_row row_of
right_by_word (Sign minus) place line seen before symbols end ast again g =
    let first = symbol (Sign minus) place line in
    let next = signed minus before in
    past_before RowEnd seen (RightFound seen.uncertainty next symbols) (RightFound seen.uncertainty before (first ∷ symbols)) first symbols end ast
    (again next (goes_to RowRelation seen before first symbols end ast g (state RowRelation seen) refl))
    (λ after rest f. (f.0, one_sign minus before.negative (number_body f.0) place line symbols rest f.1, record { ast = f.2.ast; clean = f.2.clean }))
right_by_word (Number (Some value)) place line seen before symbols end ast again g =
    let first = symbol (Number (Some value)) place line in
    let right : Fraction = signed_by before.negative value in
    past_one RowEnd seen (RightFound seen.uncertainty before (first ∷ symbols)) (with_row seen.uncertainty value before) first symbols end ast
    (right, no_sign before.negative (number_body right) (first ∷ symbols) symbols (value, refl, (refl, refl)), adds_row seen.uncertainty value before)
    (goes_to RowRelation seen before first symbols end ast g (state RowEnd seen) refl)
right_by_word (Number None) place line seen before symbols end ast again g = absurd (let e = g.stays in cc)
right_by_word word place line seen before symbols end ast again g = absurd (let e = g.moves in cc)

pub right_read : (seen : Seen) (before : Draft) (symbols : List Symbol) (end : Place) (ast : Ast)
    → read (state RowRelation seen) before symbols end ≡ Ok ast → Past RowEnd seen (RightFound seen.uncertainty before symbols) symbols end ast
unfolding read finished
right_read seen before [] end ast e = absurd cc
right_read seen before (first ∷ symbols) end ast e =
    right_by_word first.word first.place first.begins_line seen before symbols end ast
    (λ draft r. right_read seen draft symbols end ast r)
    (goes RowRelation seen before first symbols end ast e)

-- what may stand behind a row on its line
row_end_by_word : (word : Word) (place : Place) (line : Bool) (seen : Seen) (draft : Draft) (symbols : List Symbol) (end : Place) (ast : Ast)
    → Goes RowEnd seen draft (symbol word place line) symbols end ast
    → RowEnds (symbol word place line ∷ symbols) (symbol word place line ∷ symbols)
unfolding moved step may_end noted row_begun row_begin_noted fits_line may_share_line
row_end_by_word word place true seen draft symbols end ast g = (inl refl, refl)
row_end_by_word (Reserved k) place false seen draft symbols end ast g = (inr (inl (k, refl)), refl)
row_end_by_word (Name n true) place false seen draft symbols end ast g =
    let first = symbol (Name n true) place false in
    let p = row_colon_read seen (with_row_at place draft) symbols end ast (goes_to RowEnd seen draft first symbols end ast g (state RowLabel seen) refl) in
    (inr (inr (p.rest, label_of n place false symbols p.rest p.found.0)), refl)
row_end_by_word (Name n false) place false seen draft symbols end ast g = absurd (let e = g.fits in cc)
row_end_by_word word place false seen draft symbols end ast g = absurd (let e = g.fits in cc)

row_end : (seen : Seen) (draft : Draft) (symbols : List Symbol) (end : Place) (ast : Ast) → read (state RowEnd seen) draft symbols end ≡ Ok ast → RowEnds symbols symbols
unfolding read finished
row_end seen draft [] end ast e = refl
row_end seen draft (first ∷ symbols) end ast e =
    row_end_by_word first.word first.place first.begins_line seen draft symbols end ast (goes RowEnd seen draft first symbols end ast e)

-- a row behind its label
abbrev pub RowBody : AstRow → Part
RowBody row = Terms RowTerm row.terms then Says (Related row.relation) then SignedNumber row.right then RowEnds

abbrev pub BodyFound : Bool → Draft → List Symbol → Draft → List Symbol → Type 0
BodyFound uncertain started symbols after rest =
    (row : AstRow) × (row.terms ≡ [] → ⊥) × (row.at ≡ started.row_at) × RowBody row symbols rest × AddsRow uncertain started row after

body_read : (seen : Seen) (started : Draft) (symbols : List Symbol) (end : Place) (ast : Ast)
    → IsClean started → Past InRowTerm seen (RowTermFound started symbols) symbols end ast
    → Past RowEnd seen (BodyFound seen.uncertainty started symbols) symbols end ast
body_read seen started symbols end ast clean p =
    let q = more_read seen p.draft p.rest end ast p.found.2.plain p.reads in
    let r = right_read seen q.draft q.rest end ast q.reads in
    let term = p.found.0 in
    let terms = q.found.0 in
    let added = p.found.2 in
    let more = q.found.3 in
    let right = r.found.0 in
    let row : AstRow = record { terms = term ∷ terms; relation = q.found.1; right = right; at = started.row_at } in
    let all_terms : q.draft.terms ≡ term ∷ terms = more.terms ∙ ap (λ (ts : List AstTerm). ts ++ terms) (added.terms ∙ ap (λ (ts : List AstTerm). ts ++ term ∷ []) clean.terms) in
    let same_at : q.draft.row_at ≡ started.row_at = more.row_at ∙ added.row_at in
    let same : row_read_of right q.draft ≡ row = (λ i. record { terms = all_terms i; relation = more.relation i; right = right; at = same_at i }) in
    let from = subst (λ (b : Bool). SignedFrom b (Multiple term) symbols p.rest) clean.plain p.found.1 in
    let value : SignedNumber right q.rest r.rest = subst (λ (b : Bool). SignedFrom b (number_body right) q.rest r.rest) more.plain r.found.1 in
    record {
      draft = r.draft;
      rest = r.rest;
      shorter = (let h : length p.rest < length symbols = p.shorter in let k : length q.rest < length p.rest = q.shorter in let l : length r.rest < length q.rest = r.shorter in omega arith);
      found = (
        row,
        (λ none. cc),
        refl,
        (
          q.found.2.0,
          (p.rest, first_begins (Multiple term) symbols p.rest from, q.found.2.1),
          (q.rest, q.found.2.2, (r.rest, value, row_end seen r.draft r.rest end ast r.reads)),
        ),
        record {
          ast = r.found.2.ast ∙ ap (λ (x : AstRow). with_rows seen.uncertainty (x ∷ []) q.draft.ast) same
              ∙ ap (λ (a : Ast). with_rows seen.uncertainty (row ∷ []) a) (more.ast ∙ added.ast);
          clean = r.found.2.clean;
        },
      );
      reads = r.reads;
    }

-- a whole row
abbrev pub RowFound : Bool → Draft → List Symbol → Draft → List Symbol → Type 0
RowFound uncertain before symbols after rest = (row : AstRow) × RowOf row symbols rest × AddsRow uncertain before row after

clean_at : (place : Place) (draft : Draft) → IsClean draft → IsClean (with_row_at place draft)
unfolding with_row_at
clean_at place draft clean = record { terms = clean.terms; plain = clean.plain }

adds_row_at : (uncertain : Bool) (place : Place) (before : Draft) (row : AstRow) (after : Draft) → AddsRow uncertain (with_row_at place before) row after → AddsRow uncertain before row after
unfolding with_row_at
adds_row_at uncertain place before row after a = record { ast = a.ast; clean = a.clean }

-- a row without a label
row_without : (word : Word) (place : Place) (line : Bool) (seen : Seen) (before : Draft) (symbols : List Symbol) (end : Place) (ast : Ast)
    → IsClean before → Goes RowSigned seen (with_row_at place before) (symbol word place line) symbols end ast
    → Past RowEnd seen (RowFound seen.uncertainty before (symbol word place line ∷ symbols)) (symbol word place line ∷ symbols) end ast
unfolding with_row_at
row_without word place line seen before symbols end ast clean g =
    let first = symbol word place line in
    let started = with_row_at place before in
    let p = body_read seen started (first ∷ symbols) end ast (clean_at place before clean)
    (signed_by_word word place line seen started symbols end ast (λ draft r. signed_read seen draft symbols end ast r) g) in
    record {
      draft = p.draft;
      rest = p.rest;
      shorter = p.shorter;
      found = (
        p.found.0,
        (p.found.1, sym p.found.2, (first ∷ symbols, inr refl, p.found.3)),
        adds_row_at seen.uncertainty place before p.found.0 p.draft p.found.4,
      );
      reads = p.reads;
    }

-- a row with a label
row_with : (n : ℕ) (place : Place) (line : Bool) (seen : Seen) (before : Draft) (symbols : List Symbol) (end : Place) (ast : Ast)
    → IsClean before → read (state RowLabel seen) (with_row_at place before) symbols end ≡ Ok ast
    → Past RowEnd seen (RowFound seen.uncertainty before (symbol (Name n true) place line ∷ symbols)) (symbol (Name n true) place line ∷ symbols) end ast
unfolding with_row_at
row_with n place line seen before symbols end ast clean e =
    let first = symbol (Name n true) place line in
    let started = with_row_at place before in
    let c = row_colon_read seen started symbols end ast e in
    let p = body_read seen started c.rest end ast (clean_at place before clean)
    (signed_read seen started c.rest end ast (subst (λ (d : Draft). read (state RowSigned seen) d c.rest end ≡ Ok ast) c.found.1 c.reads)) in
    record {
      draft = p.draft;
      rest = p.rest;
      shorter = (let h : length c.rest < length symbols = c.shorter in let k : length p.rest < length c.rest = p.shorter in omega arith);
      found = (
        p.found.0,
        (p.found.1, sym p.found.2, (c.rest, inl (label_of n place line symbols c.rest c.found.0), p.found.3)),
        adds_row_at seen.uncertainty place before p.found.0 p.draft p.found.4,
      );
      reads = p.reads;
    }

abbrev RowOrEnd : Seen → Draft → List Symbol → Place → Ast → Type 0
RowOrEnd seen before symbols end ast = Past RowEnd seen (RowFound seen.uncertainty before symbols) symbols end ast ⊎ SectionFollows seen before symbols end ast

-- a row may begin like a term
as_signed : (word : Word) (place : Place) (line : Bool) (seen : Seen) (before : Draft) (symbols : List Symbol) (end : Place) (ast : Ast)
    → moved (state RowsBegin seen) word (step RowsBegin word) ≡ moved (state RowSigned seen) word (step RowSigned word)
    → noted RowsBegin seen.uncertainty word place before ≡ noted RowSigned seen.uncertainty word place (with_row_at place before)
    → Goes RowsBegin seen before (symbol word place line) symbols end ast
    → Goes RowSigned seen (with_row_at place before) (symbol word place line) symbols end ast
unfolding fits_line may_share_line
as_signed word place line seen before symbols end ast same_step same_note g = record {
  next = g.next;
  fits = any_line line;
  moves = sym same_step ∙ g.moves;
  stays = g.stays;
  reads = subst (λ (d : Draft). read g.next d symbols end ≡ Ok ast) same_note g.reads;
}

begin_by_word : (word : Word) (place : Place) (line : Bool) (seen : Seen) (before : Draft) (symbols : List Symbol) (end : Place) (ast : Ast)
    → IsClean before → Goes RowsBegin seen before (symbol word place line) symbols end ast
    → RowOrEnd seen before (symbol word place line ∷ symbols) end ast
unfolding moved step may_end noted row_begun row_begin_noted followed
begin_by_word (Name n true) place line seen before symbols end ast clean g =
    let first = symbol (Name n true) place line in
    inl (row_with n place line seen before symbols end ast clean (goes_to RowsBegin seen before first symbols end ast g (state RowLabel seen) refl))
begin_by_word (Name n false) place line seen before symbols end ast clean g =
    inl (row_without (Name n false) place line seen before symbols end ast clean (as_signed (Name n false) place line seen before symbols end ast refl refl g))
begin_by_word (Sign minus) place line seen before symbols end ast clean g =
    inl (row_without (Sign minus) place line seen before symbols end ast clean (as_signed (Sign minus) place line seen before symbols end ast refl refl g))
begin_by_word (Number value) place line seen before symbols end ast clean g =
    inl (row_without (Number value) place line seen before symbols end ast clean (as_signed (Number value) place line seen before symbols end ast refl refl g))
begin_by_word (Reserved k) place line seen before symbols end ast clean g =
    inr (record { first = symbol (Reserved k) place line; rest = symbols; parts = refl; next = g.next; moves = g.moves; reads = g.reads })
begin_by_word word place line seen before symbols end ast clean g = absurd (let e = g.moves in cc)

-- behind a row as behind the heading
moved_same : (o : Option Stage) (seen : Seen) (word : Word) → moved (state RowEnd seen) word o ≡ moved (state RowsBegin seen) word o
unfolding moved may_end
moved_same (Some stage) seen word = refl
moved_same None seen word = refl

as_begin : (word : Word) (place : Place) (line : Bool) (seen : Seen) (before : Draft) (symbols : List Symbol) (end : Place) (ast : Ast)
    → Goes RowEnd seen before (symbol word place line) symbols end ast → Goes RowsBegin seen before (symbol word place line) symbols end ast
unfolding fits_line may_share_line step noted
as_begin word place line seen before symbols end ast g = record {
  next = g.next;
  fits = any_line line;
  moves = sym (moved_same (row_begun word) seen word) ∙ g.moves;
  stays = g.stays;
  reads = g.reads;
}

-- rows, and then a section or END
pub record RowsPast (seen : Seen) (before : Draft) (symbols : List Symbol) (end : Place) (ast : Ast) : Type 0 where
  pub rows : List AstRow
  pub draft : Draft
  pub rest : List Symbol
  pub within : length rest ≤ length symbols
  pub written : Each RowOf rows symbols rest
  pub tree : draft.ast ≡ with_rows seen.uncertainty rows before.ast
  pub clean : IsClean draft
  pub follows : SectionFollows seen draft rest end ast

with_rows-none : (uncertain : Bool) (ast : Ast) → ast ≡ with_rows uncertain [] ast
with_rows-none true ast = λ i. record ast { uncertain = sym (append-nil ast.uncertain) i }
with_rows-none false ast = λ i. record ast { rows = sym (append-nil ast.rows) i }

with_rows-more : (uncertain : Bool) (row : AstRow) (rows : List AstRow) (ast : Ast) → with_rows uncertain rows (with_rows uncertain (row ∷ []) ast) ≡ with_rows uncertain (row ∷ rows) ast
with_rows-more true row rows ast = λ i. record ast { uncertain = append_assoc ast.uncertain (row ∷ []) rows i }
with_rows-more false row rows ast = λ i. record ast { rows = append_assoc ast.rows (row ∷ []) rows i }

no_rows : (seen : Seen) (before : Draft) (symbols : List Symbol) (end : Place) (ast : Ast) → IsClean before → SectionFollows seen before symbols end ast → RowsPast seen before symbols end ast
no_rows seen before symbols end ast clean f =
    record { rows = []; draft = before; rest = symbols; within = omega arith; written = refl; tree = with_rows-none seen.uncertainty before.ast; clean = clean; follows = f }

rows_joined : (seen : Seen) (before : Draft) (symbols : List Symbol) (end : Place) (ast : Ast)
    → (p : Past RowEnd seen (RowFound seen.uncertainty before symbols) symbols end ast) → RowsPast seen p.draft p.rest end ast
    → RowsPast seen before symbols end ast
rows_joined seen before symbols end ast p q =
    let row = p.found.0 in
    record {
      rows = row ∷ q.rows;
      draft = q.draft;
      rest = q.rest;
      within = (let h : length p.rest < length symbols = p.shorter in let k : length q.rest ≤ length p.rest = q.within in omega arith);
      written = (p.rest, p.found.1, q.written);
      tree = q.tree ∙ ap (λ (a : Ast). with_rows seen.uncertainty q.rows a) p.found.2.ast ∙ with_rows-more seen.uncertainty row q.rows before.ast;
      clean = q.clean;
      follows = q.follows;
    }

-- what comes, where a row ends
rows_behind : (seen : Seen) (before : Draft) (symbols : List Symbol) (end : Place) (ast : Ast)
    → ((draft : Draft) (rest : List Symbol) → length rest < length symbols → IsClean draft → read (state RowEnd seen) draft rest end ≡ Ok ast → RowsPast seen draft rest end ast)
    → IsClean before → RowOrEnd seen before symbols end ast → RowsPast seen before symbols end ast
rows_behind seen before symbols end ast again clean (inl p) = rows_joined seen before symbols end ast p (again p.draft p.rest p.shorter p.found.2.clean p.reads)
rows_behind seen before symbols end ast again clean (inr f) = no_rows seen before symbols end ast clean f

rows_within : (n : ℕ) (seen : Seen) (before : Draft) (symbols : List Symbol) (end : Place) (ast : Ast)
    → length symbols ≤ n → IsClean before → read (state RowEnd seen) before symbols end ≡ Ok ast → RowsPast seen before symbols end ast
unfolding read finished
rows_within n seen before [] end ast within clean e = absurd cc
rows_within zero seen before (first ∷ symbols) end ast within clean e = absurd (omega arith)
rows_within (suc n) seen before (first ∷ symbols) end ast within clean e =
    rows_behind seen before (first ∷ symbols) end ast
    (λ draft rest short c r. rows_within n seen draft rest end ast (omega arith) c r)
    clean
    (begin_by_word first.word first.place first.begins_line seen before symbols end ast clean
    (as_begin first.word first.place first.begins_line seen before symbols end ast (goes RowEnd seen before first symbols end ast e)))

pub rows_read : (seen : Seen) (before : Draft) (symbols : List Symbol) (end : Place) (ast : Ast)
    → IsClean before → read (state RowsBegin seen) before symbols end ≡ Ok ast → RowsPast seen before symbols end ast
unfolding read finished
rows_read seen before [] end ast clean e = absurd cc
rows_read seen before (first ∷ symbols) end ast clean e =
    rows_behind seen before (first ∷ symbols) end ast
    (λ draft rest short c r. rows_within (length rest) seen draft rest end ast (omega arith) c r)
    clean
    (begin_by_word first.word first.place first.begins_line seen before symbols end ast clean (goes RowsBegin seen before first symbols end ast e))
