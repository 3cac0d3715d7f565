-- What is read as an objective is written so.
use Rattle.std.proofs.Common.{◌≡◌, ℕ, zero, suc, ◌<◌, ◌≤◌, length, Bool, true, false, not, List, [], ◌∷◌, ◌++◌, Some, None, refl, sym, ap, subst, arith, ◌∙◌, inl, inr}
use Rattle.std.specs.Prelude.{if◌then◌else◌, Ok}
use Rattle.std.proofs.lemmas.List.{append_assoc, append-nil}
use Rattle.qm_math.specs.Fraction.{Fraction}
use Rattle.qm_lex.specs.declared.place.Place.{Place}
use Rattle.qm_lex.specs.declared.token.Keyword.TheVariants as keyword
use Rattle.qm_parse.specs.declared.ast.Ast.{Ast}
use Rattle.qm_parse.specs.declared.ast.AstTerm.{AstTerm}
use Rattle.qm_parse.specs.declared.draft.Draft.{Draft}
use Rattle.qm_parse.specs.declared.stage.Seen.{Seen}
use Rattle.qm_parse.specs.declared.stage.Stage.TheVariants.{ObjectiveFirst, ObjectiveLabel, ObjectiveBegin, ObjectiveSigned, ObjectiveNumber, ObjectiveTerm as InObjectiveTerm, SubjectHeading, RowsBegin}
use Rattle.qm_parse.specs.declared.word.Symbol.{Symbol}
use Rattle.qm_parse.specs.declared.word.Word.{Word}
use Rattle.qm_parse.specs.declared.word.Word.TheVariants.{Name, Number, Sign, Keyword as Reserved}
use Rattle.qm_parse.specs.Drafts.{noted, one, constant_noted, first_noted, objective_noted, signed, signed_by, with_coef, with_constant, with_multiple, with_objective, with_single}
use Rattle.qm_parse.specs.Parts.{◌then◌, Part, Each, Either, Multiple, Constant, ObjectiveOf, ObjectiveTerm, RowsHeading, Terms}
use Rattle.qm_parse.specs.Reading.{finished, leaves, read}
use Rattle.qm_parse.specs.Stages.{fits_line, may_end, may_share_line, moved, objective_begun, step}
use Rattle.qm_parse.proofs.WrittenHeadings.{PartFound, label_of, colon_read, subject_to, st}
use Rattle.qm_parse.proofs.WrittenSteps.{state, symbol, Goes, goes, goes_to, whole, any_line, Past, past_before, past_one, SignedFrom, no_sign, one_sign, sign_begins, first_begins}

-- the tree with further terms of the objective
abbrev pub with_terms : List AstTerm → Ast → Ast
with_terms terms ast = record ast { objective = ast.objective ++ terms }

-- further terms, and nothing else
pub record AddsObjective (before : Draft) (items : List AstTerm) (after : Draft) : Type 0 where
  pub ast : after.ast ≡ with_terms items before.ast
  pub terms : after.terms ≡ before.terms
  pub plain : after.negative ≡ false

-- a multiple or a constant
abbrev pub term_body : AstTerm → Bool → Part
term_body term negative = Either (Multiple term negative) (Constant term negative)

abbrev pub TermFound : Draft → List Symbol → Draft → List Symbol → Type 0
TermFound before symbols after rest = (term : AstTerm) × SignedFrom before.negative (term_body term) symbols rest × AddsObjective before (term ∷ []) after

-- the term of this name, behind its number or without
abbrev term_of : Fraction → ℕ → Place → AstTerm
term_of coef name at = record { coef = coef; name = Some name; at = at }

abbrev constant_of : Fraction → Place → AstTerm
constant_of coef at = record { coef = coef; name = None; at = at }

-- a number that is a constant
constant_behind : (value : Fraction) (at : Place) (line : Bool) (seen : Seen) (before : Draft) (symbols : List Symbol) (end : Place) (ast : Ast)
    → read (state InObjectiveTerm seen) (with_constant (with_coef value at before)) symbols end ≡ Ok ast
    → Past InObjectiveTerm seen (TermFound before (symbol (Number (Some value)) at line ∷ symbols)) (symbol (Number (Some value)) at line ∷ symbols) end ast
unfolding with_constant with_objective with_coef
constant_behind value at line seen before symbols end ast e =
    let numbered = symbol (Number (Some value)) at line in
    let made = constant_of (signed_by before.negative value) at in
    past_one InObjectiveTerm seen (TermFound before (numbered ∷ symbols)) (with_constant (with_coef value at before)) numbered symbols end ast (
      made,
      no_sign before.negative (term_body made) (numbered ∷ symbols) symbols (inr (value, refl, refl, (refl, refl, refl))),
      record { ast = refl; terms = refl; plain = refl },
    )
    e

-- behind a number
number_by_word : (word : Word) (place : Place) (begins : Bool) (value : Fraction) (at : Place) (line : Bool) (seen : Seen) (before : Draft) (symbols : List Symbol) (end : Place) (ast : Ast)
    → Goes ObjectiveNumber seen (with_coef value at before) (symbol word place begins) symbols end ast
    → Past InObjectiveTerm seen (TermFound before (symbol (Number (Some value)) at line ∷ symbol word place begins ∷ symbols)) (symbol (Number (Some value)) at line ∷ symbol word place begins ∷ symbols) end ast
unfolding moved step may_end noted constant_noted objective_noted with_multiple with_objective with_coef fits_line may_share_line
number_by_word (Name n labels) place begins value at line seen before symbols end ast g =
    let numbered = symbol (Number (Some value)) at line in
    let first = symbol (Name n labels) place begins in
    let made = term_of (signed_by before.negative value) n place in
    past_before InObjectiveTerm seen (TermFound before (numbered ∷ first ∷ symbols)) (TermFound before (numbered ∷ first ∷ symbols)) numbered (first ∷ symbols) end ast
    (past_one InObjectiveTerm seen (TermFound before (numbered ∷ first ∷ symbols)) (with_multiple n place (with_coef value at before)) first symbols end ast (
      made,
      no_sign before.negative (term_body made) (numbered ∷ first ∷ symbols) symbols
          (inl (value, n, refl, refl, (first ∷ symbols, inl (refl, refl), ((labels, refl), refl, refl)))),
      record { ast = refl; terms = refl; plain = refl },
    )
    (goes_to ObjectiveNumber seen (with_coef value at before) first symbols end ast g (state InObjectiveTerm seen) refl))
    (λ after rest f. f)
number_by_word (Sign minus) place begins value at line seen before symbols end ast g =
    constant_behind value at line seen before (symbol (Sign minus) place begins ∷ symbols) end ast
    (whole InObjectiveTerm seen (with_constant (with_coef value at before)) (symbol (Sign minus) place begins) symbols end ast
    (record { next = g.next; fits = any_line begins; moves = g.moves; stays = g.stays; reads = g.reads }))
number_by_word (Reserved keyword.Subject) place begins value at line seen before symbols end ast g =
    constant_behind value at line seen before (symbol (Reserved keyword.Subject) place begins ∷ symbols) end ast
    (whole InObjectiveTerm seen (with_constant (with_coef value at before)) (symbol (Reserved keyword.Subject) place begins) symbols end ast
    (record { next = g.next; fits = any_line begins; moves = g.moves; stays = g.stays; reads = g.reads }))
number_by_word (Reserved keyword.St) place begins value at line seen before symbols end ast g =
    constant_behind value at line seen before (symbol (Reserved keyword.St) place begins ∷ symbols) end ast
    (whole InObjectiveTerm seen (with_constant (with_coef value at before)) (symbol (Reserved keyword.St) place begins) symbols end ast
    (record { next = g.next; fits = any_line begins; moves = g.moves; stays = g.stays; reads = g.reads }))
number_by_word word place begins value at line seen before symbols end ast g = absurd (let e = g.moves in cc)

number_read : (value : Fraction) (at : Place) (line : Bool) (seen : Seen) (before : Draft) (symbols : List Symbol) (end : Place) (ast : Ast)
    → read (state ObjectiveNumber seen) (with_coef value at before) symbols end ≡ Ok ast
    → Past InObjectiveTerm seen (TermFound before (symbol (Number (Some value)) at line ∷ symbols)) (symbol (Number (Some value)) at line ∷ symbols) end ast
unfolding read finished
number_read value at line seen before [] end ast e = absurd cc
number_read value at line seen before (first ∷ symbols) end ast e =
    number_by_word first.word first.place first.begins_line value at line seen before symbols end ast
    (goes ObjectiveNumber seen (with_coef value at before) first symbols end ast e)

signed_by_word : (word : Word) (place : Place) (line : Bool) (seen : Seen) (before : Draft) (symbols : List Symbol) (end : Place) (ast : Ast)
    → ((draft : Draft) → read (state ObjectiveSigned seen) draft symbols end ≡ Ok ast → Past InObjectiveTerm seen (TermFound draft symbols) symbols end ast)
    → Goes ObjectiveSigned seen before (symbol word place line) symbols end ast
    → Past InObjectiveTerm seen (TermFound before (symbol word place line ∷ symbols)) (symbol word place line ∷ symbols) end ast
unfolding moved step may_end noted objective_noted signed leaves with_single with_objective
signed_by_word (Sign minus) place line seen before symbols end ast again g =
    let first = symbol (Sign minus) place line in
    let next = signed minus before in
    past_before InObjectiveTerm seen (TermFound next symbols) (TermFound before (first ∷ symbols)) first symbols end ast
    (again next (goes_to ObjectiveSigned seen before first symbols end ast g (state ObjectiveSigned seen) refl))
    (λ after rest f. (
      f.0,
      one_sign minus before.negative (term_body f.0) place line symbols rest f.1,
      record { ast = f.2.ast; terms = f.2.terms; plain = f.2.plain },
    ))
signed_by_word (Number (Some value)) place line seen before symbols end ast again g =
    number_read value place line seen before symbols end ast
    (goes_to ObjectiveSigned seen before (symbol (Number (Some value)) place line) symbols end ast g (state ObjectiveNumber seen) refl)
signed_by_word (Number None) place line seen before symbols end ast again g = absurd (let e = g.stays in cc)
signed_by_word (Name n labels) place line seen before symbols end ast again g =
    let first = symbol (Name n labels) place line in
    let made = term_of (signed_by before.negative one) n place in
    past_one InObjectiveTerm seen (TermFound before (first ∷ symbols)) (with_single n place before) first symbols end ast (
      made,
      no_sign before.negative (term_body made) (first ∷ symbols) symbols (inl (one, n, refl, refl, (first ∷ symbols, inr (refl, refl), ((labels, refl), refl, refl)))),
      record { ast = refl; terms = refl; plain = refl },
    )
    (goes_to ObjectiveSigned seen before first symbols end ast g (state InObjectiveTerm seen) refl)
signed_by_word word place line seen before symbols end ast again g = absurd (let e = g.moves in cc)

signed_read : (seen : Seen) (before : Draft) (symbols : List Symbol) (end : Place) (ast : Ast)
    → read (state ObjectiveSigned seen) before symbols end ≡ Ok ast → Past InObjectiveTerm seen (TermFound before symbols) symbols end ast
unfolding read finished
signed_read seen before [] end ast e = absurd cc
signed_read seen before (first ∷ symbols) end ast e =
    signed_by_word first.word first.place first.begins_line seen before symbols end ast
    (λ draft r. signed_read seen draft symbols end ast r)
    (goes ObjectiveSigned seen before first symbols end ast e)

-- further terms, up to the rows
abbrev pub MoreFound : Draft → List Symbol → Draft → List Symbol → Type 0
MoreFound before symbols after rest = (terms : List AstTerm) × (Each (ObjectiveTerm false) terms then RowsHeading) symbols rest × AddsObjective before terms after

-- all terms, up to the rows
abbrev TermsFound : Draft → List Symbol → Draft → List Symbol → Type 0
TermsFound before symbols after rest = (terms : List AstTerm) × (Terms ObjectiveTerm terms then RowsHeading) symbols rest × AddsObjective before terms after

adds_none : (before after : Draft) → before.negative ≡ false → after ≡ before → AddsObjective before [] after
adds_none before after plain same = record {
  ast = ap (λ (d : Draft). d.ast) same ∙ (λ i. record before.ast { objective = sym (append-nil before.ast.objective) i });
  terms = ap (λ (d : Draft). d.terms) same;
  plain = ap (λ (d : Draft). d.negative) same ∙ plain;
}

adds_more : (before between after : Draft) (term : AstTerm) (items : List AstTerm)
    → AddsObjective before (term ∷ []) between → AddsObjective between items after → AddsObjective before (term ∷ items) after
adds_more before between after term items one more = record {
  ast = more.ast ∙ ap (λ (a : Ast). with_terms items a) one.ast ∙ (λ i. record before.ast { objective = append_assoc before.ast.objective (term ∷ []) items i });
  terms = more.terms ∙ one.terms;
  plain = more.plain;
}

-- no further term, and the heading of the rows
no_more : (seen : Seen) (before : Draft) (symbols : List Symbol) (end : Place) (ast : Ast) → before.negative ≡ false
    → Past RowsBegin seen (PartFound RowsHeading before symbols) symbols end ast → Past RowsBegin seen (MoreFound before symbols) symbols end ast
no_more seen before symbols end ast plain p = record {
  draft = p.draft;
  rest = p.rest;
  shorter = p.shorter;
  found = ([], (symbols, refl, p.found.0), adds_none before p.draft plain p.found.1);
  reads = p.reads;
}

no_terms : (seen : Seen) (before : Draft) (symbols : List Symbol) (end : Place) (ast : Ast) → before.negative ≡ false
    → Past RowsBegin seen (PartFound RowsHeading before symbols) symbols end ast → Past RowsBegin seen (TermsFound before symbols) symbols end ast
no_terms seen before symbols end ast plain p = record {
  draft = p.draft;
  rest = p.rest;
  shorter = p.shorter;
  found = ([], (symbols, refl, p.found.0), adds_none before p.draft plain p.found.1);
  reads = p.reads;
}

-- a term that a sign begins, and further ones
more_joined : (minus : Bool) (place : Place) (line : Bool) (seen : Seen) (before : Draft) (symbols : List Symbol) (end : Place) (ast : Ast)
    → before.negative ≡ false
    → (p : Past InObjectiveTerm seen (TermFound (signed minus before) symbols) symbols end ast)
    → Past RowsBegin seen (MoreFound p.draft p.rest) p.rest end ast
    → Past RowsBegin seen (MoreFound before (symbol (Sign minus) place line ∷ symbols)) (symbol (Sign minus) place line ∷ symbols) end ast
unfolding signed
more_joined minus place line seen before symbols end ast plain p q =
    let first = symbol (Sign minus) place line in
    let term = p.found.0 in
    let terms = q.found.0 in
    let from = subst (λ (b : Bool). SignedFrom (if minus then not b else b) (term_body term) symbols p.rest) plain p.found.1 in
    let begins : ObjectiveTerm false term (first ∷ symbols) p.rest = sign_begins false minus (term_body term) place line symbols p.rest from in
    let added : AddsObjective before (term ∷ []) p.draft = record { ast = p.found.2.ast; terms = p.found.2.terms; plain = p.found.2.plain } in
    record {
      draft = q.draft;
      rest = q.rest;
      shorter = (let h : length p.rest < length symbols = p.shorter in let k : length q.rest < length p.rest = q.shorter in omega arith);
      found = (term ∷ terms, (q.found.1.0, (p.rest, begins, q.found.1.1), q.found.1.2), adds_more before p.draft q.draft term terms added q.found.2);
      reads = q.reads;
    }

more_by_word : (n : ℕ) (word : Word) (place : Place) (line : Bool) (seen : Seen) (before : Draft) (symbols : List Symbol) (end : Place) (ast : Ast)
    → ((draft : Draft) (rest : List Symbol) → length rest ≤ n → draft.negative ≡ false → read (state InObjectiveTerm seen) draft rest end ≡ Ok ast
    → Past RowsBegin seen (MoreFound draft rest) rest end ast)
    → length symbols ≤ n → before.negative ≡ false
    → Goes InObjectiveTerm seen before (symbol word place line) symbols end ast
    → Past RowsBegin seen (MoreFound before (symbol word place line ∷ symbols)) (symbol word place line ∷ symbols) end ast
unfolding moved step may_end noted objective_noted
more_by_word n (Sign minus) place line seen before symbols end ast again within plain g =
    let first = symbol (Sign minus) place line in
    let p = signed_read seen (signed minus before) symbols end ast (goes_to InObjectiveTerm seen before first symbols end ast g (state ObjectiveSigned seen) refl) in
    let h : length p.rest < length symbols = p.shorter in
    more_joined minus place line seen before symbols end ast plain p
    (again p.draft p.rest (omega arith) p.found.2.plain p.reads)
more_by_word n (Reserved keyword.Subject) place line seen before symbols end ast again within plain g =
    let first = symbol (Reserved keyword.Subject) place line in
    no_more seen before (first ∷ symbols) end ast plain (subject_to place line seen before symbols end ast
    (goes_to InObjectiveTerm seen before first symbols end ast g (state SubjectHeading seen) refl))
more_by_word n (Reserved keyword.St) place line seen before symbols end ast again within plain g =
    let first = symbol (Reserved keyword.St) place line in
    no_more seen before (first ∷ symbols) end ast plain (st place line seen before symbols end ast
    (goes_to InObjectiveTerm seen before first symbols end ast g (state RowsBegin seen) refl))
more_by_word n word place line seen before symbols end ast again within plain g = absurd (let e = g.moves in cc)

more_within : (n : ℕ) (seen : Seen) (before : Draft) (symbols : List Symbol) (end : Place) (ast : Ast)
    → length symbols ≤ n → before.negative ≡ false → read (state InObjectiveTerm seen) before symbols end ≡ Ok ast
    → Past RowsBegin seen (MoreFound before symbols) symbols end ast
unfolding read finished
more_within n seen before [] end ast within plain e = absurd cc
more_within zero seen before (first ∷ symbols) end ast within plain e = absurd (omega arith)
more_within (suc n) seen before (first ∷ symbols) end ast within plain e =
    more_by_word n first.word first.place first.begins_line seen before symbols end ast
    (λ draft rest short p r. more_within n seen draft rest end ast short p r)
    (omega arith) plain (goes InObjectiveTerm seen before first symbols end ast e)

-- a first term, and further ones
terms_joined : (seen : Seen) (before : Draft) (symbols : List Symbol) (end : Place) (ast : Ast)
    → before.negative ≡ false → Past InObjectiveTerm seen (TermFound before symbols) symbols end ast
    → Past RowsBegin seen (TermsFound before symbols) symbols end ast
terms_joined seen before symbols end ast plain p =
    let q = more_within (length p.rest) seen p.draft p.rest end ast (omega arith) p.found.2.plain p.reads in
    let term = p.found.0 in
    let from = subst (λ (b : Bool). SignedFrom b (term_body term) symbols p.rest) plain p.found.1 in
    record {
      draft = q.draft;
      rest = q.rest;
      shorter = (let h : length p.rest < length symbols = p.shorter in let k : length q.rest < length p.rest = q.shorter in omega arith);
      found = (
        term ∷ q.found.0,
        (q.found.1.0, (p.rest, first_begins (term_body term) symbols p.rest from, q.found.1.1), q.found.1.2),
        adds_more before p.draft q.draft term q.found.0 p.found.2 q.found.2,
      );
      reads = q.reads;
    }

-- an objective may begin like a further term
as_signed : (word : Word) (place : Place) (line : Bool) (seen : Seen) (before : Draft) (symbols : List Symbol) (end : Place) (ast : Ast)
    → moved (state ObjectiveBegin seen) word (step ObjectiveBegin word) ≡ moved (state ObjectiveSigned seen) word (step ObjectiveSigned word)
    → Goes ObjectiveBegin seen before (symbol word place line) symbols end ast
    → Goes ObjectiveSigned seen before (symbol word place line) symbols end ast
unfolding fits_line may_share_line noted
as_signed word place line seen before symbols end ast same_step g =
    record { next = g.next; fits = any_line line; moves = sym same_step ∙ g.moves; stays = g.stays; reads = g.reads }

terms_signed : (word : Word) (place : Place) (line : Bool) (seen : Seen) (before : Draft) (symbols : List Symbol) (end : Place) (ast : Ast)
    → before.negative ≡ false → Goes ObjectiveSigned seen before (symbol word place line) symbols end ast
    → Past RowsBegin seen (TermsFound before (symbol word place line ∷ symbols)) (symbol word place line ∷ symbols) end ast
terms_signed word place line seen before symbols end ast plain g =
    terms_joined seen before (symbol word place line ∷ symbols) end ast plain
    (signed_by_word word place line seen before symbols end ast (λ draft r. signed_read seen draft symbols end ast r) g)

terms_by_word : (word : Word) (place : Place) (line : Bool) (seen : Seen) (before : Draft) (symbols : List Symbol) (end : Place) (ast : Ast)
    → before.negative ≡ false → Goes ObjectiveBegin seen before (symbol word place line) symbols end ast
    → Past RowsBegin seen (TermsFound before (symbol word place line ∷ symbols)) (symbol word place line ∷ symbols) end ast
unfolding moved step objective_begun may_end noted objective_noted
terms_by_word (Sign minus) place line seen before symbols end ast plain g =
    terms_signed (Sign minus) place line seen before symbols end ast plain (as_signed (Sign minus) place line seen before symbols end ast refl g)
terms_by_word (Number value) place line seen before symbols end ast plain g =
    terms_signed (Number value) place line seen before symbols end ast plain (as_signed (Number value) place line seen before symbols end ast refl g)
terms_by_word (Name n labels) place line seen before symbols end ast plain g =
    terms_signed (Name n labels) place line seen before symbols end ast plain (as_signed (Name n labels) place line seen before symbols end ast refl g)
terms_by_word (Reserved keyword.Subject) place line seen before symbols end ast plain g =
    let first = symbol (Reserved keyword.Subject) place line in
    no_terms seen before (first ∷ symbols) end ast plain (subject_to place line seen before symbols end ast
    (goes_to ObjectiveBegin seen before first symbols end ast g (state SubjectHeading seen) refl))
terms_by_word (Reserved keyword.St) place line seen before symbols end ast plain g =
    let first = symbol (Reserved keyword.St) place line in
    no_terms seen before (first ∷ symbols) end ast plain (st place line seen before symbols end ast
    (goes_to ObjectiveBegin seen before first symbols end ast g (state RowsBegin seen) refl))
terms_by_word word place line seen before symbols end ast plain g = absurd (let e = g.moves in cc)

terms_read : (seen : Seen) (before : Draft) (symbols : List Symbol) (end : Place) (ast : Ast)
    → before.negative ≡ false → read (state ObjectiveBegin seen) before symbols end ≡ Ok ast → Past RowsBegin seen (TermsFound before symbols) symbols end ast
unfolding read finished
terms_read seen before [] end ast plain e = absurd cc
terms_read seen before (first ∷ symbols) end ast plain e =
    terms_by_word first.word first.place first.begins_line seen before symbols end ast plain (goes ObjectiveBegin seen before first symbols end ast e)

-- the objective and the heading of the rows
abbrev pub ObjectiveFound : Draft → List Symbol → Draft → List Symbol → Type 0
ObjectiveFound before symbols after rest = (terms : List AstTerm) × (ObjectiveOf terms then RowsHeading) symbols rest × AddsObjective before terms after

without_label : (seen : Seen) (before : Draft) (symbols : List Symbol) (end : Place) (ast : Ast)
    → Past RowsBegin seen (TermsFound before symbols) symbols end ast → Past RowsBegin seen (ObjectiveFound before symbols) symbols end ast
without_label seen before symbols end ast p = record {
  draft = p.draft;
  rest = p.rest;
  shorter = p.shorter;
  found = (p.found.0, (p.found.1.0, (symbols, inr refl, p.found.1.1), p.found.1.2), p.found.2);
  reads = p.reads;
}

with_label : (n : ℕ) (place : Place) (line : Bool) (seen : Seen) (before : Draft) (symbols : List Symbol) (end : Place) (ast : Ast)
    → before.negative ≡ false → read (state ObjectiveLabel seen) before symbols end ≡ Ok ast
    → Past RowsBegin seen (ObjectiveFound before (symbol (Name n true) place line ∷ symbols)) (symbol (Name n true) place line ∷ symbols) end ast
with_label n place line seen before symbols end ast plain e =
    let c = colon_read seen before symbols end ast e in
    let p = terms_read seen before c.rest end ast plain (subst (λ (d : Draft). read (state ObjectiveBegin seen) d c.rest end ≡ Ok ast) c.found.1 c.reads) in
    record {
      draft = p.draft;
      rest = p.rest;
      shorter = (let h : length c.rest < length symbols = c.shorter in let k : length p.rest < length c.rest = p.shorter in omega arith);
      found = (p.found.0, (p.found.1.0, (c.rest, inl (label_of n place line symbols c.rest c.found.0), p.found.1.1), p.found.1.2), p.found.2);
      reads = p.reads;
    }

as_begin : (word : Word) (place : Place) (line : Bool) (seen : Seen) (before : Draft) (symbols : List Symbol) (end : Place) (ast : Ast)
    → moved (state ObjectiveFirst seen) word (step ObjectiveFirst word) ≡ moved (state ObjectiveBegin seen) word (step ObjectiveBegin word)
    → noted ObjectiveFirst seen.uncertainty word place before ≡ noted ObjectiveBegin seen.uncertainty word place before
    → Goes ObjectiveFirst seen before (symbol word place line) symbols end ast
    → Goes ObjectiveBegin seen before (symbol word place line) symbols end ast
unfolding fits_line may_share_line
as_begin word place line seen before symbols end ast same_step same_note g = record {
  next = g.next;
  fits = any_line line;
  moves = sym same_step ∙ g.moves;
  stays = g.stays;
  reads = subst (λ (d : Draft). read g.next d symbols end ≡ Ok ast) same_note g.reads;
}

first_by_word : (word : Word) (place : Place) (line : Bool) (seen : Seen) (before : Draft) (symbols : List Symbol) (end : Place) (ast : Ast)
    → before.negative ≡ false → Goes ObjectiveFirst seen before (symbol word place line) symbols end ast
    → Past RowsBegin seen (ObjectiveFound before (symbol word place line ∷ symbols)) (symbol word place line ∷ symbols) end ast
unfolding moved step objective_begun may_end noted first_noted
first_by_word (Name n true) place line seen before symbols end ast plain g =
    with_label n place line seen before symbols end ast plain
    (goes_to ObjectiveFirst seen before (symbol (Name n true) place line) symbols end ast g (state ObjectiveLabel seen) refl)
first_by_word word place line seen before symbols end ast plain g =
    without_label seen before (symbol word place line ∷ symbols) end ast
    (terms_by_word word place line seen before symbols end ast plain (as_begin word place line seen before symbols end ast refl refl g))

pub objective_read : (seen : Seen) (before : Draft) (symbols : List Symbol) (end : Place) (ast : Ast)
    → before.negative ≡ false → read (state ObjectiveFirst seen) before symbols end ≡ Ok ast → Past RowsBegin seen (ObjectiveFound before symbols) symbols end ast
unfolding read finished
objective_read seen before [] end ast plain e = absurd cc
objective_read seen before (first ∷ symbols) end ast plain e =
    first_by_word first.word first.place first.begins_line seen before symbols end ast plain (goes ObjectiveFirst seen before first symbols end ast e)
