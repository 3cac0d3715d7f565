-- What is read as terms of a row is written so.
use Rattle.std.proofs.Common.{◌≡◌, ℕ, zero, suc, ◌<◌, ◌≤◌, length, Bool, false, not, List, [], ◌∷◌, ◌++◌, Some, None, refl, sym, ap, subst, arith, ◌∙◌, inl, inr}
use Rattle.std.specs.Prelude.{if◌then◌else◌, Ok}
use Rattle.std.proofs.lemmas.List.{append_assoc, append-nil}
use Rattle.qm_math.specs.Fraction.{Fraction}
use Rattle.qm_lex.specs.declared.place.Place.{Place}
use Rattle.qm_parse.specs.declared.ast.Ast.{Ast}
use Rattle.qm_parse.specs.declared.ast.AstTerm.{AstTerm}
use Rattle.qm_parse.specs.declared.ast.Relation.{Relation}
use Rattle.qm_parse.specs.declared.draft.Draft.{Draft}
use Rattle.qm_parse.specs.declared.stage.Seen.{Seen}
use Rattle.qm_parse.specs.declared.stage.Stage.TheVariants.{RowSigned, RowNumber, RowTerm as InRowTerm, RowRelation}
use Rattle.qm_parse.specs.declared.word.Symbol.{Symbol}
use Rattle.qm_parse.specs.declared.word.Word.{Word}
use Rattle.qm_parse.specs.declared.word.Word.TheVariants.{Name, Number, Sign, Related}
use Rattle.qm_parse.specs.Drafts.{noted, one, row_noted, signed, signed_by, with_coef, with_single_term, with_multiple_term, with_term, with_relation}
use Rattle.qm_parse.specs.Parts.{◌then◌, Each, Says, Multiple, RowTerm}
use Rattle.qm_parse.specs.Reading.{finished, leaves, read}
use Rattle.qm_parse.specs.Stages.{may_end, moved, step}
use Rattle.qm_parse.proofs.WrittenSteps.{state, symbol, Goes, goes, goes_to, Past, past_before, past_one, SignedFrom, no_sign, one_sign, sign_begins}

-- one more term, and nothing else
pub record AddsTerm (before : Draft) (term : AstTerm) (after : Draft) : Type 0 where
  pub ast : after.ast ≡ before.ast
  pub terms : after.terms ≡ before.terms ++ term ∷ []
  pub row_at : after.row_at ≡ before.row_at
  pub plain : after.negative ≡ false

-- behind the signs that were read
abbrev pub RowTermFound : Draft → List Symbol → Draft → List Symbol → Type 0
RowTermFound before symbols after rest = (term : AstTerm) × SignedFrom before.negative (Multiple term) symbols rest × AddsTerm before term after

-- the term of this name, behind its number or without
abbrev term_of : Fraction → ℕ → Place → AstTerm
term_of coef name at = record { coef = coef; name = Some name; at = at }

adds_single : (n : ℕ) (at : Place) (draft : Draft) → AddsTerm draft (term_of (signed_by draft.negative one) n at) (with_single_term n at draft)
unfolding with_single_term with_term
adds_single n at draft = record { ast = refl; terms = refl; row_at = refl; plain = refl }

single : (n : ℕ) (labels : Bool) (at : Place) (line negative : Bool) (symbols : List Symbol)
    → Multiple (term_of (signed_by negative one) n at) negative (symbol (Name n labels) at line ∷ symbols) symbols
single n labels at line negative symbols = (one, n, refl, refl, (symbol (Name n labels) at line ∷ symbols, inr (refl, refl), ((labels, refl), refl, refl)))

-- a name behind a number
number_by_word : (word : Word) (place : Place) (line : Bool) (seen : Seen) (value : Fraction) (at : Place) (before : Draft) (numbered : Symbol) (symbols : List Symbol) (end : Place) (ast : Ast)
    → numbered.word ≡ Number (Some value)
    → Goes RowNumber seen (with_coef value at before) (symbol word place line) symbols end ast
    → Past InRowTerm seen (RowTermFound before (numbered ∷ symbol word place line ∷ symbols)) (symbol word place line ∷ symbols) end ast
unfolding moved step may_end noted with_multiple_term with_term with_coef
number_by_word (Name n labels) place line seen value at before numbered symbols end ast is g =
    let first = symbol (Name n labels) place line in
    let made : AstTerm = term_of (signed_by before.negative value) n place in
    past_one InRowTerm seen (RowTermFound before (numbered ∷ first ∷ symbols)) (with_multiple_term n place (with_coef value at before)) first symbols end ast (
      made,
      no_sign before.negative (Multiple made) (numbered ∷ first ∷ symbols) symbols
          (value, n, refl, refl, (first ∷ symbols, inl (is, refl), ((labels, refl), refl, refl))),
      record { ast = refl; terms = refl; row_at = refl; plain = refl },
    ) (goes_to RowNumber seen (with_coef value at before) first symbols end ast g (state InRowTerm seen) refl)
number_by_word word place line seen value at before numbered symbols end ast is g = absurd (let e = g.moves in cc)

number_read : (seen : Seen) (value : Fraction) (at : Place) (before : Draft) (numbered : Symbol) (symbols : List Symbol) (end : Place) (ast : Ast)
    → numbered.word ≡ Number (Some value)
    → read (state RowNumber seen) (with_coef value at before) symbols end ≡ Ok ast
    → Past InRowTerm seen (RowTermFound before (numbered ∷ symbols)) symbols end ast
unfolding read finished
number_read seen value at before numbered [] end ast is e = absurd cc
number_read seen value at before numbered (first ∷ symbols) end ast is e =
    number_by_word first.word first.place first.begins_line seen value at before numbered symbols end ast is
    (goes RowNumber seen (with_coef value at before) first symbols end ast e)

pub signed_by_word : (word : Word) (place : Place) (line : Bool) (seen : Seen) (before : Draft) (symbols : List Symbol) (end : Place) (ast : Ast)
    → ((draft : Draft) → read (state RowSigned seen) draft symbols end ≡ Ok ast → Past InRowTerm seen (RowTermFound draft symbols) symbols end ast)
    → Goes RowSigned seen before (symbol word place line) symbols end ast
    → Past InRowTerm seen (RowTermFound before (symbol word place line ∷ symbols)) (symbol word place line ∷ symbols) end ast
unfolding moved step may_end noted row_noted signed leaves
signed_by_word (Sign minus) place line seen before symbols end ast again g =
    let first = symbol (Sign minus) place line in
    let next = signed minus before in
    past_before InRowTerm seen (RowTermFound next symbols) (RowTermFound before (first ∷ symbols)) first symbols end ast
    (again next (goes_to RowSigned seen before first symbols end ast g (state RowSigned seen) refl))
    (λ after rest f. (
      f.0,
      one_sign minus before.negative (Multiple f.0) place line symbols rest f.1,
      record { ast = f.2.ast; terms = f.2.terms; row_at = f.2.row_at; plain = f.2.plain },
    ))
signed_by_word (Number (Some value)) place line seen before symbols end ast again g =
    let first = symbol (Number (Some value)) place line in
    past_before InRowTerm seen (RowTermFound before (first ∷ symbols)) (RowTermFound before (first ∷ symbols)) first symbols end ast
    (number_read seen value place before first symbols end ast refl
    (goes_to RowSigned seen before first symbols end ast g (state RowNumber seen) refl))
    (λ after rest f. f)
signed_by_word (Number None) place line seen before symbols end ast again g = absurd (let e = g.stays in cc)
signed_by_word (Name n labels) place line seen before symbols end ast again g =
    let first = symbol (Name n labels) place line in
    let made = term_of (signed_by before.negative one) n place in
    past_one InRowTerm seen (RowTermFound before (first ∷ symbols)) (with_single_term n place before) first symbols end ast
    (made, no_sign before.negative (Multiple made) (first ∷ symbols) symbols (single n labels place line before.negative symbols), adds_single n place before)
    (goes_to RowSigned seen before first symbols end ast g (state InRowTerm seen) refl)
signed_by_word word place line seen before symbols end ast again g = absurd (let e = g.moves in cc)

pub signed_read : (seen : Seen) (before : Draft) (symbols : List Symbol) (end : Place) (ast : Ast)
    → read (state RowSigned seen) before symbols end ≡ Ok ast → Past InRowTerm seen (RowTermFound before symbols) symbols end ast
unfolding read finished
signed_read seen before [] end ast e = absurd cc
signed_read seen before (first ∷ symbols) end ast e =
    signed_by_word first.word first.place first.begins_line seen before symbols end ast
    (λ draft r. signed_read seen draft symbols end ast r)
    (goes RowSigned seen before first symbols end ast e)

-- the terms and the relation behind them, and nothing else
pub record AddsTerms (before : Draft) (items : List AstTerm) (compared : Relation) (after : Draft) : Type 0 where
  pub ast : after.ast ≡ before.ast
  pub terms : after.terms ≡ before.terms ++ items
  pub relation : after.relation ≡ compared
  pub row_at : after.row_at ≡ before.row_at
  pub plain : after.negative ≡ false

-- further terms, up to the relation
abbrev pub MoreFound : Draft → List Symbol → Draft → List Symbol → Type 0
MoreFound before symbols after rest =
    (terms : List AstTerm) × (relation : Relation) × (Each (RowTerm false) terms then Says (Related relation)) symbols rest × AddsTerms before terms relation after

-- a term that a sign begins, and further ones
more_joined : (minus : Bool) (place : Place) (line : Bool) (seen : Seen) (before : Draft) (symbols : List Symbol) (end : Place) (ast : Ast)
    → before.negative ≡ false
    → (p : Past InRowTerm seen (RowTermFound (signed minus before) symbols) symbols end ast)
    → Past RowRelation seen (MoreFound p.draft p.rest) p.rest end ast
    → Past RowRelation seen (MoreFound before (symbol (Sign minus) place line ∷ symbols)) (symbol (Sign minus) place line ∷ symbols) end ast
unfolding signed
more_joined minus place line seen before symbols end ast plain p q =
    let first = symbol (Sign minus) place line in
    let term = p.found.0 in
    let terms = q.found.0 in
    let from = subst (λ (b : Bool). SignedFrom (if minus then not b else b) (Multiple term) symbols p.rest) plain p.found.1 in
    let begins : RowTerm false term (first ∷ symbols) p.rest = sign_begins false minus (Multiple term) place line symbols p.rest from in
    let added = p.found.2 in
    let more = q.found.3 in
    record {
      draft = q.draft;
      rest = q.rest;
      shorter = (let h : length p.rest < length symbols = p.shorter in let k : length q.rest < length p.rest = q.shorter in omega arith);
      found = (
        term ∷ terms,
        q.found.1,
        (q.found.2.0, (p.rest, begins, q.found.2.1), q.found.2.2),
        record {
          ast = more.ast ∙ added.ast;
          terms = more.terms ∙ ap (λ (ts : List AstTerm). ts ++ terms) added.terms ∙ append_assoc before.terms (term ∷ []) terms;
          relation = more.relation;
          row_at = more.row_at ∙ added.row_at;
          plain = more.plain;
        },
      );
      reads = q.reads;
    }

more_by_word : (n : ℕ) (word : Word) (place : Place) (line : Bool) (seen : Seen) (before : Draft) (symbols : List Symbol) (end : Place) (ast : Ast)
    → ((draft : Draft) (rest : List Symbol) → length rest ≤ n → draft.negative ≡ false → read (state InRowTerm seen) draft rest end ≡ Ok ast
    → Past RowRelation seen (MoreFound draft rest) rest end ast)
    → length symbols ≤ n → before.negative ≡ false
    → Goes InRowTerm seen before (symbol word place line) symbols end ast
    → Past RowRelation seen (MoreFound before (symbol word place line ∷ symbols)) (symbol word place line ∷ symbols) end ast
unfolding moved step may_end noted row_noted with_relation
more_by_word n (Sign minus) place line seen before symbols end ast again within plain g =
    let first = symbol (Sign minus) place line in
    let p = signed_read seen (signed minus before) symbols end ast (goes_to InRowTerm seen before first symbols end ast g (state RowSigned seen) refl) in
    let h : length p.rest < length symbols = p.shorter in
    more_joined minus place line seen before symbols end ast plain p
    (again p.draft p.rest (omega arith) p.found.2.plain p.reads)
more_by_word n (Related relation) place line seen before symbols end ast again within plain g =
    let first = symbol (Related relation) place line in
    past_one RowRelation seen (MoreFound before (first ∷ symbols)) (with_relation relation before) first symbols end ast (
      [],
      relation,
      (first ∷ symbols, refl, (refl, refl)),
      record { ast = refl; terms = sym (append-nil before.terms); relation = refl; row_at = refl; plain = plain },
    )
    (goes_to InRowTerm seen before first symbols end ast g (state RowRelation seen) refl)
more_by_word n word place line seen before symbols end ast again within plain g = absurd (let e = g.moves in cc)

more_within : (n : ℕ) (seen : Seen) (before : Draft) (symbols : List Symbol) (end : Place) (ast : Ast)
    → length symbols ≤ n → before.negative ≡ false → read (state InRowTerm seen) before symbols end ≡ Ok ast
    → Past RowRelation seen (MoreFound before symbols) symbols end ast
unfolding read finished
more_within n seen before [] end ast within plain e = absurd cc
more_within zero seen before (first ∷ symbols) end ast within plain e = absurd (omega arith)
more_within (suc n) seen before (first ∷ symbols) end ast within plain e =
    more_by_word n first.word first.place first.begins_line seen before symbols end ast
    (λ draft rest short p r. more_within n seen draft rest end ast short p r)
    (omega arith) plain (goes InRowTerm seen before first symbols end ast e)

pub more_read : (seen : Seen) (before : Draft) (symbols : List Symbol) (end : Place) (ast : Ast)
    → before.negative ≡ false → read (state InRowTerm seen) before symbols end ≡ Ok ast
    → Past RowRelation seen (MoreFound before symbols) symbols end ast
more_read seen before symbols end ast plain e = more_within (length symbols) seen before symbols end ast (omega arith) plain e
