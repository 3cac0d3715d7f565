-- Rows are read.
use Rattle.std.proofs.Common.{◌≡◌, ◌≢◌, ℕ, Bool, true, false, List, [], ◌∷◌, ◌++◌, ◌⊎◌, inl, inr, Some, IsTrue, refl, sym, ap, subst, ◌∙◌, append_assoc, append-nil}
use Rattle.qm_math.specs.Fraction.{Fraction}
use Rattle.qm_lex.specs.declared.place.Place.{Place}
use Rattle.qm_parse.specs.declared.ast.Ast.{Ast}
use Rattle.qm_parse.specs.declared.ast.AstRow.{AstRow}
use Rattle.qm_parse.specs.declared.ast.AstTerm.{AstTerm}
use Rattle.qm_parse.specs.declared.ast.Relation.{Relation}
use Rattle.qm_parse.specs.declared.draft.Draft.{Draft}
use Rattle.qm_parse.specs.declared.stage.Seen.{Seen}
use Rattle.qm_parse.specs.declared.stage.Stage.{Stage}
use Rattle.qm_parse.specs.declared.stage.Stage.TheVariants as stage
use Rattle.qm_parse.specs.declared.word.Symbol.{Symbol}
use Rattle.qm_parse.specs.declared.word.Word.{Word}
use Rattle.qm_parse.specs.declared.word.Word.TheVariants.{Name, Number, Sign, Related, Colon, Keyword as Reserved}
use Rattle.qm_parse.specs.Drafts.{noted, right_noted, row_begin_noted, row_noted, row_of, signed, signed_by, with_relation, with_row, with_row_at}
use Rattle.qm_parse.specs.Parts.{Each, Label, Multiple, NameAt, RowOf, RowEnds, RowTerm, Says, SignOf, SignedNumber, SignedTerm, StandsAt, Terms, is_odd}
use Rattle.qm_parse.specs.Reading.{leaves, read}
use Rattle.qm_parse.specs.Stages.{may_share_line, row_begun, step}
use Rattle.qm_parse.specs.Texts.{KnowColons, is_colon_next}
use Rattle.qm_parse.proofs.ReadSteps.{AreReadAs, GoesOn, fits_begun, fits_shared, goes_nowhere, goes_same, goes_then, reads_same, state_at}
use Rattle.qm_parse.proofs.ReadSigns.{right_signs, signed_negative, signs_colons, signs_read}
use Rattle.qm_parse.proofs.ReadWords.{FirstFits, flagged_fits, flagged_label, flagged_plain, says_colon, says_goes, says_no_colon}
use Rattle.qm_parse.proofs.ReadTerms.{RowDraft, row_term_goes, row_terms_goes, signed_first, terms_no_colon}

-- the draft between rows, bounds and sections
pub record IsBetween (ast : Ast) (draft : Draft) : Type 0 where
  pub ast_is : draft.ast ≡ ast
  pub terms_are : draft.terms ≡ []
  pub sign_is : draft.negative ≡ false

-- the tree with further rows; behind UNCERTAINTY they are uncertainty rows
abbrev pub rows_added : Bool → Ast → List AstRow → Ast
rows_added true ast rows = record ast { uncertain = ast.uncertain ++ rows }
rows_added false ast rows = record ast { rows = ast.rows ++ rows }

rows_added-none : (uncertain : Bool) (ast : Ast) → rows_added uncertain ast [] ≡ ast
rows_added-none true ast = ap (λ rows. record ast { uncertain = rows }) (append-nil ast.uncertain)
rows_added-none false ast = ap (λ rows. record ast { rows = rows }) (append-nil ast.rows)

rows_added-more : (uncertain : Bool) (ast : Ast) (row : AstRow) (rows : List AstRow) → rows_added uncertain (rows_added uncertain ast (row ∷ [])) rows ≡ rows_added uncertain ast (row ∷ rows)
rows_added-more true ast row rows = ap (λ all. record ast { uncertain = all }) (append_assoc ast.uncertain (row ∷ []) rows)
rows_added-more false ast row rows = ap (λ all. record ast { rows = all }) (append_assoc ast.rows (row ∷ []) rows)

-- a sign, a number or a name that is no label stands first
abbrev pub BeginsTerm : List Symbol → Type 0
BeginsTerm [] = ⊥
BeginsTerm (symbol ∷ symbols) =
    ((minus : Bool) × (symbol.word ≡ Sign minus)) ⊎ ((value : Fraction) × (symbol.word ≡ Number (Some value))) ⊎ ((n : ℕ) × (symbol.word ≡ Name n false))

number_begins : (value : Fraction) (symbols rest : List Symbol) → Says (Number (Some value)) symbols rest → BeginsTerm symbols
number_begins value [] rest p = absurd p
number_begins value (symbol ∷ symbols) rest p = inr (inl (value, p.0))

name_begins : (n : ℕ) (at : Place) (symbols rest : List Symbol) → KnowColons symbols → ¬ is_colon_next rest → NameAt n at symbols rest → BeginsTerm symbols
name_begins n at [] rest colons none p = absurd p
name_begins n at (symbol ∷ symbols) rest colons none p = inr (inr (n, (flagged_plain n at (symbol ∷ symbols) rest colons none p).0))

sign_begins : (minus : Bool) (symbols rest : List Symbol) → SignOf minus symbols rest → BeginsTerm symbols
sign_begins minus [] rest p = absurd p
sign_begins minus (symbol ∷ symbols) rest p = inl (minus, p.0)

pub multiple_begins : (term : AstTerm) (negative : Bool) (symbols rest : List Symbol) → KnowColons symbols → ¬ is_colon_next rest → Multiple term negative symbols rest → BeginsTerm symbols
multiple_begins term negative symbols rest colons none (value, n, name_is, coef_is, (between, inl number, named)) = number_begins value symbols between number
multiple_begins term negative symbols rest colons none (value, n, name_is, coef_is, (between, inr unit, named)) =
    name_begins n term.at symbols rest colons none (subst (λ xs. NameAt n term.at xs rest) (sym unit.1) named)

pub signed_begins : (is_first : Bool) (Body : Bool → List Symbol → List Symbol → Type 0) (symbols rest : List Symbol) → KnowColons symbols
    → ((negative : Bool) (xs : List Symbol) → KnowColons xs → Body negative xs rest → BeginsTerm xs) → SignedTerm is_first Body symbols rest → BeginsTerm symbols
signed_begins is_first Body symbols rest colons begins ([], some, (between, same, body)) =
    subst BeginsTerm (sym same) (begins false between (subst KnowColons same colons) body)
signed_begins is_first Body symbols rest colons begins (minus ∷ signs, some, (between, signs_are, body)) = sign_begins minus symbols signs_are.0 signs_are.1

-- a stage where a row may begin
pub record RowBegins (s : Stage) : Type 0 where
  pub signs : (minus : Bool) → step s (Sign minus) ≡ Some stage.RowSigned
  pub numbers : (value : Fraction) → step s (Number (Some value)) ≡ Some stage.RowNumber
  pub names : (n : ℕ) → step s (Name n false) ≡ Some stage.RowTerm
  pub labels : (n : ℕ) → step s (Name n true) ≡ Some stage.RowLabel
  pub notes : (uncertain : Bool) (word : Word) (at : Place) (draft : Draft) → noted s uncertain word at draft ≡ row_begin_noted word at draft

pub rows_begin : RowBegins stage.RowsBegin
unfolding step row_begun noted
rows_begin = record { signs = λ m. refl; numbers = λ v. refl; names = λ n. refl; labels = λ n. refl; notes = λ u w at d. refl }

pub row_end : RowBegins stage.RowEnd
unfolding step row_begun noted
row_end = record { signs = λ m. refl; numbers = λ v. refl; names = λ n. refl; labels = λ n. refl; notes = λ u w at d. refl }

at_place : (seen : Seen) (s : Stage) (draft : Draft) (symbols : List Symbol) (one other : Place) → one ≡ other
    → AreReadAs (state_at s seen) draft symbols (state_at stage.RowSigned seen) (with_row_at one draft) symbols
    → AreReadAs (state_at s seen) draft symbols (state_at stage.RowSigned seen) (with_row_at other draft) symbols
at_place seen s draft symbols one other same p = subst (λ at. AreReadAs (state_at s seen) draft symbols (state_at stage.RowSigned seen) (with_row_at at draft) symbols) same p

-- where a term begins a row, it may as well stand behind a label
row_as_signed : (seen : Seen) (s : Stage) (draft : Draft) (at : Place) (symbols : List Symbol) → RowBegins s → StandsAt at symbols → FirstFits s symbols → BeginsTerm symbols
    → AreReadAs (state_at s seen) draft symbols (state_at stage.RowSigned seen) (with_row_at at draft) symbols
unfolding step may_share_line leaves noted row_noted row_begin_noted
row_as_signed seen s draft at [] begins stands fits p = absurd p
row_as_signed seen s draft at (symbol ∷ symbols) begins stands fits (inl sign) =
    at_place seen s draft (symbol ∷ symbols) symbol.place at stands
    (reads_same s stage.RowSigned stage.RowSigned seen draft (with_row_at symbol.place draft) symbol symbols (Sign sign.0) sign.1
    fits (fits_shared stage.RowSigned symbol refl) (begins.signs sign.0) refl refl (begins.notes seen.uncertainty (Sign sign.0) symbol.place draft))
row_as_signed seen s draft at (symbol ∷ symbols) begins stands fits (inr (inl number)) =
    at_place seen s draft (symbol ∷ symbols) symbol.place at stands
    (reads_same s stage.RowSigned stage.RowNumber seen draft (with_row_at symbol.place draft) symbol symbols (Number (Some number.0)) number.1
    fits (fits_shared stage.RowSigned symbol refl) (begins.numbers number.0) refl refl (begins.notes seen.uncertainty (Number (Some number.0)) symbol.place draft))
row_as_signed seen s draft at (symbol ∷ symbols) begins stands fits (inr (inr name)) =
    at_place seen s draft (symbol ∷ symbols) symbol.place at stands
    (reads_same s stage.RowSigned stage.RowTerm seen draft (with_row_at symbol.place draft) symbol symbols (Name name.0 false) name.1
    fits (fits_shared stage.RowSigned symbol refl) (begins.names name.0) refl refl (begins.notes seen.uncertainty (Name name.0 false) symbol.place draft))

row_begun_is : (ast : Ast) (at : Place) (draft : Draft) → IsBetween ast draft → RowDraft ast at [] false (with_row_at at draft)
unfolding with_row_at
row_begun_is ast at draft is = record { ast_is = is.ast_is; at_is = refl; terms_are = is.terms_are; sign_is = is.sign_is }

-- the sides of a row
abbrev RightDraft : Ast → Place → List AstTerm → Relation → Bool → Draft → Type 0
RightDraft ast at terms relation negative draft = RowDraft ast at terms negative draft × (draft.relation ≡ relation)

row_is : (row : AstRow) (negative : Bool) (value : Fraction) (draft : Draft) → draft.terms ≡ row.terms → draft.relation ≡ row.relation → draft.negative ≡ negative → draft.row_at ≡ row.at
    → row.right ≡ signed_by negative value → row_of value draft ≡ row
unfolding row_of
row_is row negative value draft terms relation sign at right =
    ap (λ ts. record { terms = ts; relation = draft.relation; right = signed_by draft.negative value; at = draft.row_at }) terms
    ∙ ap (λ r. record { terms = row.terms; relation = r; right = signed_by draft.negative value; at = draft.row_at }) relation
    ∙ ap (λ q. record { terms = row.terms; relation = row.relation; right = q; at = draft.row_at }) (ap (λ b. signed_by b value) sign ∙ sym right)
    ∙ ap (λ p. record { terms = row.terms; relation = row.relation; right = row.right; at = p }) at

row_ended_is : (uncertain : Bool) (ast : Ast) (row : AstRow) (negative : Bool) (value : Fraction) (draft : Draft) → RightDraft ast row.at row.terms row.relation negative draft
    → row.right ≡ signed_by negative value → IsBetween (rows_added uncertain ast (row ∷ [])) (with_row uncertain value draft)
unfolding with_row
row_ended_is true ast row negative value draft is right =
    let made = row_is row negative value draft is.0.terms_are is.1 is.0.sign_is is.0.at_is right in record {
      ast_is = ap (λ a. rows_added true a (row_of value draft ∷ [])) is.0.ast_is ∙ ap (λ r. rows_added true ast (r ∷ [])) made;
      terms_are = refl;
      sign_is = refl;
    }
row_ended_is false ast row negative value draft is right =
    let made = row_is row negative value draft is.0.terms_are is.1 is.0.sign_is is.0.at_is right in record {
      ast_is = ap (λ a. rows_added false a (row_of value draft ∷ [])) is.0.ast_is ∙ ap (λ r. rows_added false ast (r ∷ [])) made;
      terms_are = refl;
      sign_is = refl;
    }

right_signs_goes : (seen : Seen) (ast : Ast) (at : Place) (terms : List AstTerm) (relation : Relation) (draft : Draft) (signs : List Bool) (symbols rest : List Symbol)
    → RightDraft ast at terms relation false draft → KnowColons symbols → Each SignOf signs symbols rest
    → GoesOn seen stage.RowRelation draft symbols stage.RowRelation (RightDraft ast at terms relation (is_odd signs)) rest
unfolding signed
right_signs_goes seen ast at terms relation draft signs symbols rest is colons p = (
  signed (is_odd signs) draft,
  (record { ast_is = is.0.ast_is; at_is = is.0.at_is; terms_are = is.0.terms_are; sign_is = signed_negative (is_odd signs) draft is.0.sign_is }, is.1),
  signs_colons signs symbols rest colons p,
  signs_read stage.RowRelation seen draft signs symbols rest right_signs p,
)

row_right_goes : (seen : Seen) (ast : Ast) (row : AstRow) (draft : Draft) (symbols rest : List Symbol)
    → RightDraft ast row.at row.terms row.relation false draft → KnowColons symbols → SignedNumber row.right symbols rest
    → GoesOn seen stage.RowRelation draft symbols stage.RowEnd (IsBetween (rows_added seen.uncertainty ast (row ∷ []))) rest
unfolding step may_share_line leaves noted right_noted
row_right_goes seen ast row draft symbols rest is colons (signs, (between, signs_are, (value, right, number))) =
    goes_then seen stage.RowRelation stage.RowRelation stage.RowEnd draft symbols between rest (RightDraft ast row.at row.terms row.relation (is_odd signs)) (IsBetween (rows_added seen.uncertainty ast (row ∷ [])))
    (right_signs_goes seen ast row.at row.terms row.relation draft signs symbols between is colons signs_are)
    (λ d holds known. says_goes seen stage.RowRelation stage.RowEnd d (Number (Some value)) between rest (IsBetween (rows_added seen.uncertainty ast (row ∷ []))) known refl refl refl
    (λ at. row_ended_is seen.uncertainty ast row (is_odd signs) value d holds right) number)

relation_is : (ast : Ast) (at : Place) (terms : List AstTerm) (relation : Relation) (draft : Draft) → RowDraft ast at terms false draft → RightDraft ast at terms relation false (with_relation relation draft)
unfolding with_relation
relation_is ast at terms relation draft is = (record { ast_is = is.ast_is; at_is = is.at_is; terms_are = is.terms_are; sign_is = is.sign_is }, refl)

-- the relation and the right side
row_sides_goes : (seen : Seen) (ast : Ast) (row : AstRow) (draft : Draft) (symbols between rest : List Symbol) → RowDraft ast row.at row.terms false draft → KnowColons symbols
    → Says (Related row.relation) symbols between → SignedNumber row.right between rest
    → GoesOn seen stage.RowTerm draft symbols stage.RowEnd (IsBetween (rows_added seen.uncertainty ast (row ∷ []))) rest
unfolding step may_share_line leaves noted row_noted
row_sides_goes seen ast row draft symbols between rest is colons related right =
    goes_then seen stage.RowTerm stage.RowRelation stage.RowEnd draft symbols between rest (RightDraft ast row.at row.terms row.relation false) (IsBetween (rows_added seen.uncertainty ast (row ∷ [])))
    (says_goes seen stage.RowTerm stage.RowRelation draft (Related row.relation) symbols between (RightDraft ast row.at row.terms row.relation false) colons refl refl refl
    (λ at. relation_is ast row.at row.terms row.relation draft is) related)
    (λ d holds known. row_right_goes seen ast row d between rest holds known right)

-- a row behind its label
row_body_goes : (seen : Seen) (ast : Ast) (row : AstRow) (first : AstTerm) (others : List AstTerm) (draft : Draft) (symbols behind_first behind_terms behind_relation rest : List Symbol)
    → row.terms ≡ first ∷ others → RowDraft ast row.at [] false draft → KnowColons symbols → RowTerm true first symbols behind_first → Each (RowTerm false) others behind_first behind_terms
    → Says (Related row.relation) behind_terms behind_relation → SignedNumber row.right behind_relation rest
    → GoesOn seen stage.RowSigned draft symbols stage.RowEnd (IsBetween (rows_added seen.uncertainty ast (row ∷ []))) rest
row_body_goes seen ast row first others draft symbols behind_first behind_terms behind_relation rest terms_are is colons term terms related right =
    goes_then seen stage.RowSigned stage.RowTerm stage.RowEnd draft symbols behind_first rest (RowDraft ast row.at (first ∷ []) false) (IsBetween (rows_added seen.uncertainty ast (row ∷ [])))
    (row_term_goes seen ast row.at [] draft true first symbols behind_first is colons term)
    (λ d holds known.
    goes_then seen stage.RowTerm stage.RowTerm stage.RowEnd d behind_first behind_terms rest (RowDraft ast row.at (first ∷ others) false) (IsBetween (rows_added seen.uncertainty ast (row ∷ [])))
    (row_terms_goes seen ast row.at (first ∷ []) others d behind_first behind_terms holds known terms)
    (λ e all seen_colons. row_sides_goes seen ast row e behind_terms behind_relation rest (subst (λ ts. RowDraft ast row.at ts false e) (sym terms_are) all) seen_colons related right))

-- a label is passed over
label_goes : (seen : Seen) (ast : Ast) (s : Stage) (at : Place) (draft : Draft) (symbols rest : List Symbol) → RowBegins s → IsBetween ast draft → KnowColons symbols → FirstFits s symbols
    → StandsAt at symbols → Label symbols rest → GoesOn seen s draft symbols stage.RowSigned (RowDraft ast at [] false) rest
unfolding step may_share_line leaves noted row_begin_noted
label_goes seen ast s at draft [] rest begins is colons fits stands p = absurd stands
label_goes seen ast s at draft (symbol ∷ symbols) rest begins is colons fits stands (n, place, (between, named, colon)) =
    let label = flagged_label n place (symbol ∷ symbols) between colons (says_colon between rest colon) named in
    let begun : RowDraft ast at [] false (row_begin_noted (Name n true) place draft) =
    subst (λ p. RowDraft ast at [] false (with_row_at p draft)) (sym stands ∙ label.1) (row_begun_is ast at draft is) in
    goes_then seen s stage.RowLabel stage.RowSigned draft (symbol ∷ symbols) between rest (RowDraft ast at [] false) (RowDraft ast at [] false)
    (flagged_fits seen s stage.RowLabel draft n place true (symbol ∷ symbols) between (RowDraft ast at [] false) colons fits (begins.labels n)
    (subst (RowDraft ast at [] false) (sym (begins.notes seen.uncertainty (Name n true) place draft)) begun) label)
    (λ d holds known. says_goes seen stage.RowLabel stage.RowSigned d Colon between rest (RowDraft ast at [] false) known refl refl refl (λ p. holds) colon)

-- behind a row the next token fits the line
abbrev pub FitsRowEnd : List Symbol → Type 0
FitsRowEnd symbols = FirstFits stage.RowEnd symbols

row_end_fits : (symbol : Symbol) (symbols : List Symbol) → KnowColons (symbol ∷ symbols) → IsTrue symbol.begins_line ⊎ ((reserved : _) × (symbol.word ≡ Reserved reserved)) ⊎ ((more : List Symbol) × Label (symbol ∷ symbols) more)
    → FitsRowEnd (symbol ∷ symbols)
unfolding may_share_line
row_end_fits symbol symbols colons (inl begins) = fits_begun stage.RowEnd symbol begins
row_end_fits symbol symbols colons (inr (inl reserved)) = fits_shared stage.RowEnd symbol (ap (may_share_line stage.RowEnd) reserved.1)
row_end_fits symbol symbols colons (inr (inr (more, (n, place, (between, named, colon))))) =
    let label = flagged_label n place (symbol ∷ symbols) between colons (says_colon between more colon) named in
    fits_shared stage.RowEnd symbol (ap (may_share_line stage.RowEnd) label.0)

row_ends : (symbols rest : List Symbol) → KnowColons symbols → RowEnds symbols rest → (symbols ≡ rest) × FitsRowEnd rest
row_ends [] rest colons p = (p, subst FitsRowEnd p tt)
row_ends (symbol ∷ symbols) rest colons p = (p.1, subst FitsRowEnd p.1 (row_end_fits symbol symbols colons p.0))

related_no_colon : (relation : Relation) (symbols rest : List Symbol) → Says (Related relation) symbols rest → ¬ is_colon_next symbols
related_no_colon relation symbols rest p = says_no_colon (Related relation) symbols rest (λ e. absurd cc) p

-- a row, behind which the next token fits the line
abbrev RowDone : Seen → Ast → AstRow → List Symbol → Draft → Type 0
RowDone seen ast row rest draft = IsBetween (rows_added seen.uncertainty ast (row ∷ [])) draft × FitsRowEnd rest

row_closed : (seen : Seen) (s : Stage) (ast : Ast) (row : AstRow) (draft : Draft) (symbols behind rest : List Symbol) → RowEnds behind rest
    → GoesOn seen s draft symbols stage.RowEnd (IsBetween (rows_added seen.uncertainty ast (row ∷ []))) behind
    → GoesOn seen s draft symbols stage.RowEnd (RowDone seen ast row rest) rest
row_closed seen s ast row draft symbols behind rest ends (e, holds, known, reads) =
    let ended = row_ends behind rest known ends in
    (e, (holds, ended.1), subst KnowColons ended.0 known, λ end. reads end ∙ ap (λ xs. read (state_at stage.RowEnd seen) e xs end) ended.0)

row_terms_of : (terms : List AstTerm) (symbols rest : List Symbol) → (terms ≢ []) → Terms RowTerm terms symbols rest
    → (first : AstTerm) × (others : List AstTerm) × (terms ≡ first ∷ others) × (between : List Symbol) × RowTerm true first symbols between × Each (RowTerm false) others between rest
row_terms_of [] symbols rest some p = absurd (some refl)
row_terms_of (first ∷ others) symbols rest some (between, term, further) = (first, others, refl, between, term, further)

pub row_goes : (seen : Seen) (ast : Ast) (s : Stage) (row : AstRow) (draft : Draft) (symbols rest : List Symbol) → RowBegins s → IsBetween ast draft → KnowColons symbols → FirstFits s symbols
    → RowOf row symbols rest → GoesOn seen s draft symbols stage.RowEnd (RowDone seen ast row rest) rest
row_goes seen ast s row draft symbols rest begins is colons fits (some, stands, (behind_label, inl label, (behind_terms, terms, (behind_relation, related, (behind, right, ends))))) =
    let parts = row_terms_of row.terms behind_label behind_terms some terms in
    row_closed seen s ast row draft symbols behind rest ends
    (goes_then seen s stage.RowSigned stage.RowEnd draft symbols behind_label behind (RowDraft ast row.at [] false) (IsBetween (rows_added seen.uncertainty ast (row ∷ [])))
    (label_goes seen ast s row.at draft symbols behind_label begins is colons fits stands label)
    (λ d holds known. row_body_goes seen ast row parts.0 parts.1 d behind_label parts.3 behind_terms behind_relation behind parts.2 holds known parts.4 parts.5 related right))
row_goes seen ast s row draft symbols rest begins is colons fits (some, stands, (behind_label, inr same, (behind_terms, terms, (behind_relation, related, (behind, right, ends))))) =
    let parts = row_terms_of row.terms symbols behind_terms some (subst (λ xs. Terms RowTerm row.terms xs behind_terms) (sym same) terms) in
    let none = terms_no_colon RowTerm parts.1 parts.3 behind_terms (λ term xs more p. signed_first (Multiple term) xs more p) parts.5 (related_no_colon row.relation behind_terms behind_relation related) in
    let first = signed_begins true (Multiple parts.0) symbols parts.3 colons (λ negative xs known body. multiple_begins parts.0 negative xs parts.3 known none body) parts.4 in
    row_closed seen s ast row draft symbols behind rest ends
    (goes_same seen s stage.RowSigned stage.RowEnd draft (with_row_at row.at draft) symbols behind (IsBetween (rows_added seen.uncertainty ast (row ∷ [])))
    (row_as_signed seen s draft row.at symbols begins stands fits first)
    (row_body_goes seen ast row parts.0 parts.1 (with_row_at row.at draft) symbols parts.3 behind_terms behind_relation behind parts.2 (row_begun_is ast row.at draft is) colons parts.4 parts.5 related right))

-- rows, one behind the other, of which the last leaves where a row may begin
pub rows_go : (seen : Seen) (ast : Ast) (s : Stage) (rows : List AstRow) (draft : Draft) (symbols rest : List Symbol) → RowBegins s → IsBetween ast draft → KnowColons symbols → FirstFits s symbols
    → Each RowOf rows symbols rest → (next : Stage) × ((next ≡ s) ⊎ (next ≡ stage.RowEnd)) × GoesOn seen s draft symbols next (IsBetween (rows_added seen.uncertainty ast rows)) rest
rows_go seen ast s [] draft symbols rest begins is colons fits p =
    (s, inl refl, goes_nowhere seen s draft symbols rest (IsBetween (rows_added seen.uncertainty ast [])) p (subst (λ a. IsBetween a draft) (sym (rows_added-none seen.uncertainty ast)) is) colons)
rows_go seen ast s (row ∷ rows) draft symbols rest begins is colons fits (between, first, others) =
    let (d, holds, known, reads) = row_goes seen ast s row draft symbols between begins is colons fits first in
    let (next, where_next, further) = rows_go seen (rows_added seen.uncertainty ast (row ∷ [])) stage.RowEnd rows d between rest row_end holds.0 known holds.1 others in
    let added = subst (λ a. GoesOn seen stage.RowEnd d between next (IsBetween a) rest) (rows_added-more seen.uncertainty ast row rows) further in
    (next, inr (elim where_next [ inl e ↦ e | inr e ↦ e ]), (added.0, added.1, added.2, λ end. reads end ∙ added.3 end))
