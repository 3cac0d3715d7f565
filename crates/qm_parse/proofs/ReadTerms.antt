-- The terms of a row are read.
use Rattle.std.proofs.Common.{◌≡◌, ℕ, Bool, false, List, [], ◌∷◌, ◌++◌, inl, inr, Option, Some, refl, sym, ap, subst, ◌∙◌, append_assoc, append-nil}
use Rattle.qm_math.specs.Fraction.{Fraction}
use Rattle.qm_lex.specs.declared.place.Place.{Place}
use Rattle.qm_parse.specs.declared.ast.Ast.{Ast}
use Rattle.qm_parse.specs.declared.ast.AstTerm.{AstTerm}
use Rattle.qm_parse.specs.declared.draft.Draft.{Draft}
use Rattle.qm_parse.specs.declared.stage.Seen.{Seen}
use Rattle.qm_parse.specs.declared.stage.Stage.TheVariants as stage
use Rattle.qm_parse.specs.declared.word.Symbol.{Symbol}
use Rattle.qm_parse.specs.declared.word.Word.TheVariants.{Name, Number, Sign, Colon}
use Rattle.qm_parse.specs.Drafts.{noted, one, row_noted, signed, signed_by, with_coef, with_multiple_term, with_single_term, with_term}
use Rattle.qm_parse.specs.Parts.{Each, Multiple, NameAt, RowTerm, SignOf, SignedTerm, is_odd}
use Rattle.qm_parse.specs.Reading.{leaves}
use Rattle.qm_parse.specs.Stages.{may_share_line, step}
use Rattle.qm_parse.specs.Texts.{KnowColons, is_colon_next}
use Rattle.qm_parse.proofs.ReadSteps.{AreReadAs, GoesOn, goes_nowhere, goes_same, goes_then, reads_same, fits_shared, state_at}
use Rattle.qm_parse.proofs.ReadSigns.{row_signs, signed_negative, signs_colons, signs_read}
use Rattle.qm_parse.proofs.ReadWords.{name_goes, says_goes}

-- the draft of a row that has begun
pub record RowDraft (ast : Ast) (at : Place) (terms : List AstTerm) (negative : Bool) (draft : Draft) : Type 0 where
  pub ast_is : draft.ast ≡ ast
  pub at_is : draft.row_at ≡ at
  pub terms_are : draft.terms ≡ terms
  pub sign_is : draft.negative ≡ negative

pub row_signs_goes : (seen : Seen) (ast : Ast) (at : Place) (terms : List AstTerm) (draft : Draft) (signs : List Bool) (symbols rest : List Symbol)
    → RowDraft ast at terms false draft → KnowColons symbols → Each SignOf signs symbols rest
    → GoesOn seen stage.RowSigned draft symbols stage.RowSigned (RowDraft ast at terms (is_odd signs)) rest
unfolding signed
row_signs_goes seen ast at terms draft signs symbols rest is colons p = (
  signed (is_odd signs) draft,
  record { ast_is = is.ast_is; at_is = is.at_is; terms_are = is.terms_are; sign_is = signed_negative (is_odd signs) draft is.sign_is },
  signs_colons signs symbols rest colons p,
  signs_read stage.RowSigned seen draft signs symbols rest row_signs p,
)

pub term_made : (term : AstTerm) (coef : Fraction) (n : ℕ) → term.name ≡ Some n → term.coef ≡ coef → record { coef = coef; name = Some n; at = term.at } ≡ term
term_made term coef n name_is coef_is =
    ap (λ c. record { coef = c; name = Some n; at = term.at }) (sym coef_is) ∙ ap (λ (m : Option ℕ). record { coef = term.coef; name = m; at = term.at }) (sym name_is)

row_number_is : (seen : Seen) (ast : Ast) (at : Place) (terms : List AstTerm) (negative : Bool) (value : Fraction) (draft : Draft) → RowDraft ast at terms negative draft
    → (place : Place) → RowDraft ast at terms false (noted stage.RowSigned seen.uncertainty (Number (Some value)) place draft)
    × ((noted stage.RowSigned seen.uncertainty (Number (Some value)) place draft).coef ≡ signed_by negative value)
unfolding noted row_noted with_coef
row_number_is seen ast at terms negative value draft is place =
    (record { ast_is = is.ast_is; at_is = is.at_is; terms_are = is.terms_are; sign_is = refl }, ap (λ b. signed_by b value) is.sign_is)

row_multiple_is : (seen : Seen) (ast : Ast) (at : Place) (terms : List AstTerm) (negative : Bool) (value : Fraction) (n : ℕ) (term : AstTerm) (draft : Draft)
    → term.name ≡ Some n → term.coef ≡ signed_by negative value → RowDraft ast at terms false draft → draft.coef ≡ signed_by negative value
    → (labels : Bool) → RowDraft ast at (terms ++ term ∷ []) false (noted stage.RowNumber seen.uncertainty (Name n labels) term.at draft)
unfolding noted with_multiple_term with_term
row_multiple_is seen ast at terms negative value n term draft name_is coef_is is coef labels = record {
  ast_is = is.ast_is;
  at_is = is.at_is;
  terms_are = ap (λ ts. ts ++ record { coef = draft.coef; name = Some n; at = term.at } ∷ []) is.terms_are ∙ ap (λ t. terms ++ t ∷ []) (term_made term draft.coef n name_is (coef_is ∙ sym coef));
  sign_is = refl;
}

row_single_is : (seen : Seen) (ast : Ast) (at : Place) (terms : List AstTerm) (negative : Bool) (value : Fraction) (n : ℕ) (term : AstTerm) (draft : Draft)
    → term.name ≡ Some n → term.coef ≡ signed_by negative value → value ≡ one → RowDraft ast at terms negative draft
    → (labels : Bool) → RowDraft ast at (terms ++ term ∷ []) false (noted stage.RowSigned seen.uncertainty (Name n labels) term.at draft)
unfolding noted row_noted with_single_term with_term
row_single_is seen ast at terms negative value n term draft name_is coef_is unit is labels = record {
  ast_is = is.ast_is;
  at_is = is.at_is;
  terms_are =
      ap (λ ts. ts ++ record { coef = signed_by draft.negative one; name = Some n; at = term.at } ∷ []) is.terms_are
      ∙ ap (λ t. terms ++ t ∷ []) (term_made term (signed_by draft.negative one) n name_is (coef_is ∙ ap (signed_by negative) unit ∙ ap (λ b. signed_by b one) (sym is.sign_is)));
  sign_is = refl;
}

-- a number and a name, or a name alone
pub row_multiple_goes : (seen : Seen) (ast : Ast) (at : Place) (terms : List AstTerm) (negative : Bool) (draft : Draft) (term : AstTerm) (symbols rest : List Symbol)
    → RowDraft ast at terms negative draft → KnowColons symbols → Multiple term negative symbols rest
    → GoesOn seen stage.RowSigned draft symbols stage.RowTerm (RowDraft ast at (terms ++ term ∷ []) false) rest
unfolding step may_share_line leaves
row_multiple_goes seen ast at terms negative draft term symbols rest is colons (value, n, name_is, coef_is, (between, inl number, named)) =
    goes_then seen stage.RowSigned stage.RowNumber stage.RowTerm draft symbols between rest
    (λ d. RowDraft ast at terms false d × (d.coef ≡ signed_by negative value))
    (RowDraft ast at (terms ++ term ∷ []) false)
    (says_goes seen stage.RowSigned stage.RowNumber draft (Number (Some value)) symbols between (λ d. RowDraft ast at terms false d × (d.coef ≡ signed_by negative value)) colons refl refl refl
    (row_number_is seen ast at terms negative value draft is) number)
    (λ d holds known. name_goes seen stage.RowNumber stage.RowTerm d n term.at between rest (RowDraft ast at (terms ++ term ∷ []) false) known (λ labels. refl) (λ labels. refl)
    (row_multiple_is seen ast at terms negative value n term d name_is coef_is holds.0 holds.1) named)
row_multiple_goes seen ast at terms negative draft term symbols rest is colons (value, n, name_is, coef_is, (between, inr none, named)) =
    name_goes seen stage.RowSigned stage.RowTerm draft n term.at symbols rest (RowDraft ast at (terms ++ term ∷ []) false) colons (λ labels. refl) (λ labels. refl)
    (row_single_is seen ast at terms negative value n term draft name_is coef_is none.0 is) (subst (λ xs. NameAt n term.at xs rest) (sym none.1) named)

-- signs, and what is behind them
pub row_term_goes : (seen : Seen) (ast : Ast) (at : Place) (terms : List AstTerm) (draft : Draft) (is_first : Bool) (term : AstTerm) (symbols rest : List Symbol)
    → RowDraft ast at terms false draft → KnowColons symbols → RowTerm is_first term symbols rest
    → GoesOn seen stage.RowSigned draft symbols stage.RowTerm (RowDraft ast at (terms ++ term ∷ []) false) rest
row_term_goes seen ast at terms draft is_first term symbols rest is colons (signs, some, (between, signs_are, body)) =
    goes_then seen stage.RowSigned stage.RowSigned stage.RowTerm draft symbols between rest (RowDraft ast at terms (is_odd signs)) (RowDraft ast at (terms ++ term ∷ []) false)
    (row_signs_goes seen ast at terms draft signs symbols between is colons signs_are)
    (λ d holds known. row_multiple_goes seen ast at terms (is_odd signs) d term between rest holds known body)

-- the first sign of a further term
abbrev pub BeginsWithSign : List Symbol → Type 0
BeginsWithSign [] = ⊥
BeginsWithSign (symbol ∷ symbols) = (minus : Bool) × (symbol.word ≡ Sign minus)

sign_first : (minus : Bool) (symbols rest : List Symbol) → SignOf minus symbols rest → BeginsWithSign symbols
sign_first minus [] rest p = absurd p
sign_first minus (symbol ∷ symbols) rest p = (minus, p.0)

pub signed_first : (Body : Bool → List Symbol → List Symbol → Type 0) (symbols rest : List Symbol) → SignedTerm false Body symbols rest → BeginsWithSign symbols
signed_first Body symbols rest (signs, inl is_first, p) = absurd cc
signed_first Body symbols rest ([], inr some, p) = absurd (some refl)
signed_first Body symbols rest (minus ∷ signs, inr some, p) = sign_first minus symbols p.1.0 p.1.1

pub sign_no_colon : (symbols : List Symbol) → BeginsWithSign symbols → ¬ is_colon_next symbols
sign_no_colon [] p next = absurd next
sign_no_colon (symbol ∷ symbols) p next = let e : Sign p.0 ≡ Colon = sym p.1 ∙ next in absurd cc

-- where a sign stands behind a term, it may as well stand behind signs
further_as_signed : (seen : Seen) (draft : Draft) (symbols : List Symbol) → BeginsWithSign symbols
    → AreReadAs (state_at stage.RowTerm seen) draft symbols (state_at stage.RowSigned seen) draft symbols
unfolding step may_share_line leaves noted row_noted
further_as_signed seen draft [] p = absurd p
further_as_signed seen draft (symbol ∷ symbols) p =
    reads_same stage.RowTerm stage.RowSigned stage.RowSigned seen draft draft symbol symbols (Sign p.0) p.1
    (fits_shared stage.RowTerm symbol refl) (fits_shared stage.RowSigned symbol refl) refl refl refl refl

pub row_further_goes : (seen : Seen) (ast : Ast) (at : Place) (terms : List AstTerm) (draft : Draft) (term : AstTerm) (symbols rest : List Symbol)
    → RowDraft ast at terms false draft → KnowColons symbols → RowTerm false term symbols rest
    → GoesOn seen stage.RowTerm draft symbols stage.RowTerm (RowDraft ast at (terms ++ term ∷ []) false) rest
row_further_goes seen ast at terms draft term symbols rest is colons p =
    goes_same seen stage.RowTerm stage.RowSigned stage.RowTerm draft draft symbols rest (RowDraft ast at (terms ++ term ∷ []) false)
    (further_as_signed seen draft symbols (signed_first (Multiple term) symbols rest p))
    (row_term_goes seen ast at terms draft false term symbols rest is colons p)

-- further terms
pub row_terms_goes : (seen : Seen) (ast : Ast) (at : Place) (terms further : List AstTerm) (draft : Draft) (symbols rest : List Symbol)
    → RowDraft ast at terms false draft → KnowColons symbols → Each (RowTerm false) further symbols rest
    → GoesOn seen stage.RowTerm draft symbols stage.RowTerm (RowDraft ast at (terms ++ further) false) rest
row_terms_goes seen ast at terms [] draft symbols rest is colons p =
    goes_nowhere seen stage.RowTerm draft symbols rest (RowDraft ast at (terms ++ []) false) p (subst (λ ts. RowDraft ast at ts false draft) (sym (append-nil terms)) is) colons
row_terms_goes seen ast at terms (term ∷ further) draft symbols rest is colons (between, first, others) =
    goes_then seen stage.RowTerm stage.RowTerm stage.RowTerm draft symbols between rest (RowDraft ast at (terms ++ term ∷ []) false) (RowDraft ast at (terms ++ term ∷ further) false)
    (row_further_goes seen ast at terms draft term symbols between is colons first)
    (λ d holds known.
    subst (λ ts. GoesOn seen stage.RowTerm d between stage.RowTerm (RowDraft ast at ts false) rest) (append_assoc terms (term ∷ []) further)
    (row_terms_goes seen ast at (terms ++ term ∷ []) further d between rest holds known others))

-- where a further term may stand no colon does
pub terms_no_colon : (Term : Bool → AstTerm → List Symbol → List Symbol → Type 0) (terms : List AstTerm) (symbols rest : List Symbol)
    → ((term : AstTerm) (xs more : List Symbol) → Term false term xs more → BeginsWithSign xs) → Each (Term false) terms symbols rest → ¬ is_colon_next rest → ¬ is_colon_next symbols
terms_no_colon Term [] symbols rest first p none = subst (λ xs. ¬ is_colon_next xs) (sym p) none
terms_no_colon Term (term ∷ terms) symbols rest first p none = sign_no_colon symbols (first term symbols p.0 p.1)
