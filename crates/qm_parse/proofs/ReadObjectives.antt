-- The objective and the heading behind it are read.
use Rattle.std.proofs.Common.{◌≡◌, ℕ, Bool, true, false, List, [], ◌∷◌, ◌++◌, inl, inr, Option, Some, None, refl, sym, ap, subst, ◌∙◌, append_assoc, append-nil}
use Rattle.qm_math.specs.Fraction.{Fraction}
use Rattle.qm_lex.specs.declared.place.Place.{Place}
use Rattle.qm_lex.specs.declared.token.Keyword.{Keyword}
use Rattle.qm_lex.specs.declared.token.Keyword.TheVariants as keyword
use Rattle.qm_parse.specs.declared.ast.Ast.{Ast}
use Rattle.qm_parse.specs.declared.ast.AstTerm.{AstTerm}
use Rattle.qm_parse.specs.declared.draft.Draft.{Draft}
use Rattle.qm_parse.specs.declared.stage.Seen.{Seen}
use Rattle.qm_parse.specs.declared.stage.Stage.{Stage}
use Rattle.qm_parse.specs.declared.stage.Stage.TheVariants as stage
use Rattle.qm_parse.specs.declared.word.Symbol.{Symbol}
use Rattle.qm_parse.specs.declared.word.Word.{Word}
use Rattle.qm_parse.specs.declared.word.Word.TheVariants.{Name, Number, Sign, Colon, Keyword as Reserved}
use Rattle.qm_parse.specs.Drafts.{constant_noted, first_noted, noted, objective_noted, one, signed, signed_by, with_coef, with_constant, with_multiple, with_objective, with_single}
use Rattle.qm_parse.specs.Parts.{Constant, Each, Either, Label, Multiple, NameAt, NumberAt, ObjectiveOf, ObjectiveTerm, RowsHeading, Terms, is_odd}
use Rattle.qm_parse.specs.Reading.{leaves}
use Rattle.qm_parse.specs.Stages.{may_share_line, objective_begun, step}
use Rattle.qm_parse.specs.Texts.{KnowColons, is_colon_next}
use Rattle.qm_parse.proofs.ReadSteps.{AreReadAs, GoesOn, fits_shared, goes_nowhere, goes_then, reads_same, state_at}
use Rattle.qm_parse.proofs.ReadSigns.{objective_signs, signed_negative, signs_colons, signs_read}
use Rattle.qm_parse.proofs.ReadWords.{flagged_fits, flagged_label, name_goes, number_goes, says_colon, says_goes, says_no_colon}
use Rattle.qm_parse.proofs.ReadTerms.{BeginsWithSign, signed_first, term_made, terms_no_colon}
use Rattle.qm_parse.proofs.ReadRows.{BeginsTerm, IsBetween, multiple_begins, signed_begins}

-- the draft between parts, with signs
pub record SignedDraft (ast : Ast) (negative : Bool) (draft : Draft) : Type 0 where
  pub ast_is : draft.ast ≡ ast
  pub terms_are : draft.terms ≡ []
  pub sign_is : draft.negative ≡ negative

pub signed_is : (ast : Ast) (odd : Bool) (draft : Draft) → IsBetween ast draft → SignedDraft ast odd (signed odd draft)
unfolding signed
signed_is ast odd draft is = record { ast_is = is.ast_is; terms_are = is.terms_are; sign_is = signed_negative odd draft is.sign_is }

-- a number that may be a constant is one, where no name follows
abbrev pub settled : Stage → Draft → Draft
settled stage.ObjectiveNumber draft = with_constant draft
settled s draft = draft

-- a stage behind which the heading of rows may follow
pub record HeadingFollows (s : Stage) (settle : Draft → Draft) : Type 0 where
  pub shares : (reserved : Keyword) → may_share_line s (Reserved reserved) ≡ true
  pub subject : step s (Reserved keyword.Subject) ≡ Some stage.SubjectHeading
  pub st : step s (Reserved keyword.St) ≡ Some stage.RowsBegin
  pub keeps : (uncertain : Bool) (reserved : Keyword) (at : Place) (draft : Draft) → noted s uncertain (Reserved reserved) at draft ≡ settle draft

pub uncertainty_heading : HeadingFollows stage.UncertaintyHeading (λ draft. draft)
unfolding may_share_line step noted
uncertainty_heading = record { shares = λ k. refl; subject = refl; st = refl; keeps = λ u k at d. refl }

-- a stage behind which a further term of the objective may follow
pub record ObjectiveEnds (s : Stage) : Type 0 where
  pub shares : (minus : Bool) → may_share_line s (Sign minus) ≡ true
  pub signs : (minus : Bool) → step s (Sign minus) ≡ Some stage.ObjectiveSigned
  pub keeps : (uncertain minus : Bool) (at : Place) (draft : Draft) → noted s uncertain (Sign minus) at draft ≡ signed minus (settled s draft)
  pub heading : HeadingFollows s (settled s)

objective_first_ends : ObjectiveEnds stage.ObjectiveFirst
unfolding may_share_line step objective_begun noted first_noted objective_noted
objective_first_ends = record {
  shares = λ m. refl;
  signs = λ m. refl;
  keeps = λ u m at d. refl;
  heading = record { shares = λ k. refl; subject = refl; st = refl; keeps = λ u k at d. refl };
}

objective_begin_ends : ObjectiveEnds stage.ObjectiveBegin
unfolding may_share_line step objective_begun noted objective_noted
objective_begin_ends = record {
  shares = λ m. refl;
  signs = λ m. refl;
  keeps = λ u m at d. refl;
  heading = record { shares = λ k. refl; subject = refl; st = refl; keeps = λ u k at d. refl };
}

objective_term_ends : ObjectiveEnds stage.ObjectiveTerm
unfolding may_share_line step noted objective_noted
objective_term_ends = record {
  shares = λ m. refl;
  signs = λ m. refl;
  keeps = λ u m at d. refl;
  heading = record { shares = λ k. refl; subject = refl; st = refl; keeps = λ u k at d. refl };
}

objective_number_ends : ObjectiveEnds stage.ObjectiveNumber
unfolding may_share_line step noted constant_noted
objective_number_ends = record {
  shares = λ m. refl;
  signs = λ m. refl;
  keeps = λ u m at d. refl;
  heading = record { shares = λ k. refl; subject = refl; st = refl; keeps = λ u k at d. refl };
}

abbrev pub objective_added : Ast → List AstTerm → Ast
objective_added ast terms = record ast { objective = ast.objective ++ terms }

objective_added-none : (ast : Ast) → objective_added ast [] ≡ ast
objective_added-none ast = ap (λ terms. record ast { objective = terms }) (append-nil ast.objective)

objective_added-more : (ast : Ast) (term : AstTerm) (terms : List AstTerm) → objective_added (objective_added ast (term ∷ [])) terms ≡ objective_added ast (term ∷ terms)
objective_added-more ast term terms = ap (λ all. record ast { objective = all }) (append_assoc ast.objective (term ∷ []) terms)

objective_term_is : (ast : Ast) (draft : Draft) (made term : AstTerm) → draft.ast ≡ ast → draft.terms ≡ [] → made ≡ term → IsBetween (objective_added ast (term ∷ [])) (with_objective made draft)
unfolding with_objective
objective_term_is ast draft made term ast_is terms_are same = record {
  ast_is = ap (λ a. objective_added a (made ∷ [])) ast_is ∙ ap (λ t. objective_added ast (t ∷ [])) same;
  terms_are = terms_are;
  sign_is = refl;
}

-- a term was added, or stands to be a constant
abbrev TermDone : Ast → AstTerm → Stage → Draft → Type 0
TermDone ast term next draft = IsBetween (objective_added ast (term ∷ [])) (settled next draft)

abbrev Numbered : Ast → Fraction → Draft → Type 0
Numbered ast coef draft = SignedDraft ast false draft × (draft.coef ≡ coef)

number_is : (seen : Seen) (ast : Ast) (negative : Bool) (value : Fraction) (draft : Draft) → SignedDraft ast negative draft
    → (place : Place) → Numbered ast (signed_by negative value) (noted stage.ObjectiveSigned seen.uncertainty (Number (Some value)) place draft)
unfolding noted objective_noted with_coef
number_is seen ast negative value draft is place = (record { ast_is = is.ast_is; terms_are = is.terms_are; sign_is = refl }, ap (λ b. signed_by b value) is.sign_is)

multiple_is : (seen : Seen) (ast : Ast) (coef : Fraction) (n : ℕ) (term : AstTerm) (draft : Draft) → term.name ≡ Some n → term.coef ≡ coef → Numbered ast coef draft
    → (labels : Bool) → TermDone ast term stage.ObjectiveTerm (noted stage.ObjectiveNumber seen.uncertainty (Name n labels) term.at draft)
unfolding noted constant_noted with_multiple
multiple_is seen ast coef n term draft name_is coef_is is labels =
    objective_term_is ast draft (record { coef = draft.coef; name = Some n; at = term.at }) term is.0.ast_is is.0.terms_are (term_made term draft.coef n name_is (coef_is ∙ sym is.1))

single_is : (seen : Seen) (ast : Ast) (negative : Bool) (value : Fraction) (n : ℕ) (term : AstTerm) (draft : Draft) → term.name ≡ Some n → term.coef ≡ signed_by negative value → value ≡ one
    → SignedDraft ast negative draft → (labels : Bool) → TermDone ast term stage.ObjectiveTerm (noted stage.ObjectiveSigned seen.uncertainty (Name n labels) term.at draft)
unfolding noted objective_noted with_single
single_is seen ast negative value n term draft name_is coef_is unit is labels =
    objective_term_is ast draft (record { coef = signed_by draft.negative one; name = Some n; at = term.at }) term is.ast_is is.terms_are
    (term_made term (signed_by draft.negative one) n name_is (coef_is ∙ ap (signed_by negative) unit ∙ ap (λ b. signed_by b one) (sym is.sign_is)))

constant_made : (term : AstTerm) (coef : Fraction) → term.name ≡ None → term.coef ≡ coef → record { coef = coef; name = None; at = term.at } ≡ term
constant_made term coef name_is coef_is =
    ap (λ c. record { coef = c; name = None; at = term.at }) (sym coef_is) ∙ ap (λ (m : Option ℕ). record { coef = term.coef; name = m; at = term.at }) (sym name_is)

constant_is : (seen : Seen) (ast : Ast) (negative : Bool) (value : Fraction) (term : AstTerm) (draft : Draft) → term.name ≡ None → term.coef ≡ signed_by negative value
    → SignedDraft ast negative draft → TermDone ast term stage.ObjectiveNumber (noted stage.ObjectiveSigned seen.uncertainty (Number (Some value)) term.at draft)
unfolding noted objective_noted with_coef with_constant
constant_is seen ast negative value term draft name_is coef_is is =
    objective_term_is ast (with_coef value term.at draft) (record { coef = signed_by draft.negative value; name = None; at = term.at }) term is.ast_is is.terms_are
    (constant_made term (signed_by draft.negative value) name_is (coef_is ∙ ap (λ b. signed_by b value) (sym is.sign_is)))

-- a term was read, and a further one may follow
abbrev TermRead : Seen → Stage → Ast → AstTerm → Draft → List Symbol → List Symbol → Type 0
TermRead seen s ast term draft symbols rest = (next : Stage) × ObjectiveEnds next × GoesOn seen s draft symbols next (TermDone ast term next) rest

objective_multiple_goes : (seen : Seen) (ast : Ast) (negative : Bool) (draft : Draft) (term : AstTerm) (symbols rest : List Symbol)
    → SignedDraft ast negative draft → KnowColons symbols → Multiple term negative symbols rest → GoesOn seen stage.ObjectiveSigned draft symbols stage.ObjectiveTerm (TermDone ast term stage.ObjectiveTerm) rest
unfolding step may_share_line leaves
objective_multiple_goes seen ast negative draft term symbols rest is colons (value, n, name_is, coef_is, (between, inl number, named)) =
    goes_then seen stage.ObjectiveSigned stage.ObjectiveNumber stage.ObjectiveTerm draft symbols between rest (Numbered ast (signed_by negative value)) (TermDone ast term stage.ObjectiveTerm)
    (says_goes seen stage.ObjectiveSigned stage.ObjectiveNumber draft (Number (Some value)) symbols between (Numbered ast (signed_by negative value)) colons refl refl refl
    (number_is seen ast negative value draft is) number)
    (λ d holds known. name_goes seen stage.ObjectiveNumber stage.ObjectiveTerm d n term.at between rest (TermDone ast term stage.ObjectiveTerm) known (λ labels. refl) (λ labels. refl)
    (multiple_is seen ast (signed_by negative value) n term d name_is coef_is holds) named)
objective_multiple_goes seen ast negative draft term symbols rest is colons (value, n, name_is, coef_is, (between, inr none, named)) =
    name_goes seen stage.ObjectiveSigned stage.ObjectiveTerm draft n term.at symbols rest (TermDone ast term stage.ObjectiveTerm) colons (λ labels. refl) (λ labels. refl)
    (single_is seen ast negative value n term draft name_is coef_is none.0 is) (subst (λ xs. NameAt n term.at xs rest) (sym none.1) named)

objective_body_goes : (seen : Seen) (ast : Ast) (negative : Bool) (draft : Draft) (term : AstTerm) (symbols rest : List Symbol)
    → SignedDraft ast negative draft → KnowColons symbols → Either (Multiple term negative) (Constant term negative) symbols rest → TermRead seen stage.ObjectiveSigned ast term draft symbols rest
unfolding step may_share_line
objective_body_goes seen ast negative draft term symbols rest is colons (inl multiple) =
    (stage.ObjectiveTerm, objective_term_ends, objective_multiple_goes seen ast negative draft term symbols rest is colons multiple)
objective_body_goes seen ast negative draft term symbols rest is colons (inr (value, name_is, coef_is, number)) = (
  stage.ObjectiveNumber,
  objective_number_ends,
  number_goes seen stage.ObjectiveSigned stage.ObjectiveNumber draft value term.at symbols rest (TermDone ast term stage.ObjectiveNumber) colons refl refl
      (constant_is seen ast negative value term draft name_is coef_is is) number,
)

-- signs, and what is behind them
objective_signed_goes : (seen : Seen) (ast : Ast) (draft : Draft) (is_first : Bool) (term : AstTerm) (symbols rest : List Symbol)
    → IsBetween ast draft → KnowColons symbols → ObjectiveTerm is_first term symbols rest → TermRead seen stage.ObjectiveSigned ast term draft symbols rest
objective_signed_goes seen ast draft is_first term symbols rest is colons (signs, some, (between, signs_are, body)) =
    let (next, ends, (e, holds, known, reads)) = objective_body_goes seen ast (is_odd signs) (signed (is_odd signs) draft) term between rest (signed_is ast (is_odd signs) draft is) (signs_colons signs symbols between colons signs_are) body in
    (next, ends, (e, holds, known, λ end. signs_read stage.ObjectiveSigned seen draft signs symbols between objective_signs signs_are end ∙ reads end))

-- where a sign stands behind a term, it may as well stand behind signs
further_as_signed : (seen : Seen) (s : Stage) (draft : Draft) (symbols : List Symbol) → ObjectiveEnds s → BeginsWithSign symbols
    → AreReadAs (state_at s seen) draft symbols (state_at stage.ObjectiveSigned seen) (settled s draft) symbols
unfolding step may_share_line leaves noted objective_noted
further_as_signed seen s draft [] ends p = absurd p
further_as_signed seen s draft (symbol ∷ symbols) ends p =
    reads_same s stage.ObjectiveSigned stage.ObjectiveSigned seen draft (settled s draft) symbol symbols (Sign p.0) p.1
    (fits_shared s symbol (ap (may_share_line s) p.1 ∙ ends.shares p.0)) (fits_shared stage.ObjectiveSigned symbol refl) (ends.signs p.0) refl refl (ends.keeps seen.uncertainty p.0 symbol.place draft)

abbrev ObjectiveBody : AstTerm → Bool → List Symbol → List Symbol → Type 0
ObjectiveBody term negative symbols rest = Either (Multiple term negative) (Constant term negative) symbols rest

objective_further_goes : (seen : Seen) (ast : Ast) (s : Stage) (draft : Draft) (term : AstTerm) (symbols rest : List Symbol) → ObjectiveEnds s → IsBetween ast (settled s draft) → KnowColons symbols
    → ObjectiveTerm false term symbols rest → TermRead seen s ast term draft symbols rest
objective_further_goes seen ast s draft term symbols rest ends is colons p =
    let (next, next_ends, (e, holds, known, reads)) = objective_signed_goes seen ast (settled s draft) false term symbols rest is colons p in
    (next, next_ends, (e, holds, known, λ end. further_as_signed seen s draft symbols ends (signed_first (ObjectiveBody term) symbols rest p) end ∙ reads end))

-- the terms were read, and a further one may follow
abbrev TermsRead : Seen → Stage → Ast → List AstTerm → Draft → List Symbol → List Symbol → Type 0
TermsRead seen s ast terms draft symbols rest =
    (next : Stage) × ObjectiveEnds next × GoesOn seen s draft symbols next (λ e. IsBetween (objective_added ast terms) (settled next e)) rest

objective_terms_go : (seen : Seen) (ast : Ast) (s : Stage) (terms : List AstTerm) (draft : Draft) (symbols rest : List Symbol) → ObjectiveEnds s → IsBetween ast (settled s draft) → KnowColons symbols
    → Each (ObjectiveTerm false) terms symbols rest → TermsRead seen s ast terms draft symbols rest
objective_terms_go seen ast s [] draft symbols rest ends is colons p = (
  s,
  ends,
  goes_nowhere seen s draft symbols rest (λ e. IsBetween (objective_added ast []) (settled s e)) p (subst (λ a. IsBetween a (settled s draft)) (sym (objective_added-none ast)) is) colons,
)
objective_terms_go seen ast s (term ∷ terms) draft symbols rest ends is colons (between, first, others) =
    let (middle, middle_ends, (d, holds, known, reads)) = objective_further_goes seen ast s draft term symbols between ends is colons first in
    let (next, next_ends, (e, all, last, further)) = objective_terms_go seen (objective_added ast (term ∷ [])) middle terms d between rest middle_ends holds known others in
    (next, next_ends, (e, subst (λ a. IsBetween a (settled next e)) (objective_added-more ast term terms) all, last, λ end. reads end ∙ further end))

-- a stage where the first term may begin
pub record ObjectiveBegins (s : Stage) : Type 0 where
  pub shares : (word : Word) → may_share_line s word ≡ true
  pub signs : (minus : Bool) → step s (Sign minus) ≡ Some stage.ObjectiveSigned
  pub numbers : (value : Fraction) → step s (Number (Some value)) ≡ Some stage.ObjectiveNumber
  pub names : (n : ℕ) → step s (Name n false) ≡ Some stage.ObjectiveTerm
  pub sign_notes : (uncertain minus : Bool) (at : Place) (draft : Draft) → noted s uncertain (Sign minus) at draft ≡ noted stage.ObjectiveSigned uncertain (Sign minus) at draft
  pub number_notes : (uncertain : Bool) (value : Fraction) (at : Place) (draft : Draft)
      → noted s uncertain (Number (Some value)) at draft ≡ noted stage.ObjectiveSigned uncertain (Number (Some value)) at draft
  pub name_notes : (uncertain : Bool) (n : ℕ) (at : Place) (draft : Draft) → noted s uncertain (Name n false) at draft ≡ noted stage.ObjectiveSigned uncertain (Name n false) at draft
  pub ends : ObjectiveEnds s
  pub settles : (draft : Draft) → settled s draft ≡ draft

objective_first : ObjectiveBegins stage.ObjectiveFirst
unfolding may_share_line step objective_begun noted first_noted
objective_first = record {
  shares = λ w. refl;
  signs = λ m. refl;
  numbers = λ v. refl;
  names = λ n. refl;
  sign_notes = λ u m at d. refl;
  number_notes = λ u v at d. refl;
  name_notes = λ u n at d. refl;
  ends = objective_first_ends;
  settles = λ d. refl;
}

objective_begin : ObjectiveBegins stage.ObjectiveBegin
unfolding may_share_line step objective_begun noted
objective_begin = record {
  shares = λ w. refl;
  signs = λ m. refl;
  numbers = λ v. refl;
  names = λ n. refl;
  sign_notes = λ u m at d. refl;
  number_notes = λ u v at d. refl;
  name_notes = λ u n at d. refl;
  ends = objective_begin_ends;
  settles = λ d. refl;
}

-- where a term begins the objective, it may as well stand behind signs
first_as_signed : (seen : Seen) (s : Stage) (draft : Draft) (symbols : List Symbol) → ObjectiveBegins s → BeginsTerm symbols
    → AreReadAs (state_at s seen) draft symbols (state_at stage.ObjectiveSigned seen) draft symbols
unfolding step may_share_line leaves
first_as_signed seen s draft [] begins p = absurd p
first_as_signed seen s draft (symbol ∷ symbols) begins (inl sign) =
    reads_same s stage.ObjectiveSigned stage.ObjectiveSigned seen draft draft symbol symbols (Sign sign.0) sign.1
    (fits_shared s symbol (begins.shares symbol.word)) (fits_shared stage.ObjectiveSigned symbol refl) (begins.signs sign.0) refl refl (begins.sign_notes seen.uncertainty sign.0 symbol.place draft)
first_as_signed seen s draft (symbol ∷ symbols) begins (inr (inl number)) =
    reads_same s stage.ObjectiveSigned stage.ObjectiveNumber seen draft draft symbol symbols (Number (Some number.0)) number.1
    (fits_shared s symbol (begins.shares symbol.word)) (fits_shared stage.ObjectiveSigned symbol refl) (begins.numbers number.0) refl refl (begins.number_notes seen.uncertainty number.0 symbol.place draft)
first_as_signed seen s draft (symbol ∷ symbols) begins (inr (inr name)) =
    reads_same s stage.ObjectiveSigned stage.ObjectiveTerm seen draft draft symbol symbols (Name name.0 false) name.1
    (fits_shared s symbol (begins.shares symbol.word)) (fits_shared stage.ObjectiveSigned symbol refl) (begins.names name.0) refl refl (begins.name_notes seen.uncertainty name.0 symbol.place draft)

number_at_begins : (value : Fraction) (at : Place) (symbols rest : List Symbol) → NumberAt value at symbols rest → BeginsTerm symbols
number_at_begins value at [] rest p = absurd p
number_at_begins value at (symbol ∷ symbols) rest p = inr (inl (value, p.0))

body_begins : (term : AstTerm) (negative : Bool) (symbols rest : List Symbol) → KnowColons symbols → ¬ is_colon_next rest → ObjectiveBody term negative symbols rest → BeginsTerm symbols
body_begins term negative symbols rest colons none (inl multiple) = multiple_begins term negative symbols rest colons none multiple
body_begins term negative symbols rest colons none (inr (value, name_is, coef_is, number)) = number_at_begins value term.at symbols rest number

all_terms_go : (seen : Seen) (ast : Ast) (s : Stage) (terms : List AstTerm) (draft : Draft) (symbols rest : List Symbol) → ObjectiveBegins s → IsBetween ast draft → KnowColons symbols
    → ¬ is_colon_next rest → Terms ObjectiveTerm terms symbols rest → TermsRead seen s ast terms draft symbols rest
all_terms_go seen ast s [] draft symbols rest begins is colons none p =
    objective_terms_go seen ast s [] draft symbols rest begins.ends (subst (IsBetween ast) (sym (begins.settles draft)) is) colons p
all_terms_go seen ast s (term ∷ terms) draft symbols rest begins is colons none (between, first, others) =
    let no_colon = terms_no_colon ObjectiveTerm terms between rest (λ t xs more p. signed_first (ObjectiveBody t) xs more p) others none in
    let term_begins = signed_begins true (ObjectiveBody term) symbols between colons (λ negative xs known body. body_begins term negative xs between known no_colon body) first in
    let (middle, middle_ends, (d, holds, known, reads)) = objective_signed_goes seen ast draft true term symbols between is colons first in
    let (next, next_ends, (e, all, last, further)) = objective_terms_go seen (objective_added ast (term ∷ [])) middle terms d between rest middle_ends holds known others in (
      next,
      next_ends,
      (
        e,
        subst (λ a. IsBetween a (settled next e)) (objective_added-more ast term terms) all,
        last,
        λ end. first_as_signed seen s draft symbols begins term_begins end ∙ reads end ∙ further end,
      ),
    )

heading_no_colon : (symbols rest : List Symbol) → RowsHeading symbols rest → ¬ is_colon_next symbols
heading_no_colon symbols rest (inl (between, subject, to)) = says_no_colon (Reserved keyword.Subject) symbols between (λ e. absurd cc) subject
heading_no_colon symbols rest (inr st) = says_no_colon (Reserved keyword.St) symbols rest (λ e. absurd cc) st

-- SUBJECT TO, or ST
pub heading_goes : (seen : Seen) (ast : Ast) (s : Stage) (settle : Draft → Draft) (draft : Draft) (symbols rest : List Symbol) → HeadingFollows s settle → IsBetween ast (settle draft) → KnowColons symbols
    → RowsHeading symbols rest → GoesOn seen s draft symbols stage.RowsBegin (IsBetween ast) rest
unfolding step may_share_line leaves noted
heading_goes seen ast s settle draft symbols rest heading is colons (inl (between, subject, to)) =
    goes_then seen s stage.SubjectHeading stage.RowsBegin draft symbols between rest (IsBetween ast) (IsBetween ast)
    (says_goes seen s stage.SubjectHeading draft (Reserved keyword.Subject) symbols between (IsBetween ast) colons (heading.shares keyword.Subject) heading.subject refl
    (λ at. subst (IsBetween ast) (sym (heading.keeps seen.uncertainty keyword.Subject at draft)) is) subject)
    (λ d holds known. says_goes seen stage.SubjectHeading stage.RowsBegin d (Reserved keyword.To) between rest (IsBetween ast) known refl refl refl (λ at. holds) to)
heading_goes seen ast s settle draft symbols rest heading is colons (inr st) =
    says_goes seen s stage.RowsBegin draft (Reserved keyword.St) symbols rest (IsBetween ast) colons (heading.shares keyword.St) heading.st refl
    (λ at. subst (IsBetween ast) (sym (heading.keeps seen.uncertainty keyword.St at draft)) is) st

-- terms, and the heading behind them
body_goes : (seen : Seen) (ast : Ast) (s : Stage) (terms : List AstTerm) (draft : Draft) (symbols between rest : List Symbol) → ObjectiveBegins s → IsBetween ast draft → KnowColons symbols
    → Terms ObjectiveTerm terms symbols between → RowsHeading between rest → GoesOn seen s draft symbols stage.RowsBegin (IsBetween (objective_added ast terms)) rest
body_goes seen ast s terms draft symbols between rest begins is colons body heading =
    let (next, ends, (d, holds, known, reads)) = all_terms_go seen ast s terms draft symbols between begins is colons (heading_no_colon between rest heading) body in
    let (e, all, last, further) = heading_goes seen (objective_added ast terms) next (settled next) d between rest ends.heading holds known heading in
    (e, all, last, λ end. reads end ∙ further end)

-- the objective's label is passed over
objective_label_goes : (seen : Seen) (ast : Ast) (draft : Draft) (symbols rest : List Symbol) → IsBetween ast draft → KnowColons symbols → Label symbols rest
    → GoesOn seen stage.ObjectiveFirst draft symbols stage.ObjectiveBegin (IsBetween ast) rest
unfolding step may_share_line leaves noted first_noted
objective_label_goes seen ast draft [] rest is colons (n, place, (between, named, colon)) = absurd named
objective_label_goes seen ast draft (symbol ∷ symbols) rest is colons (n, place, (between, named, colon)) =
    goes_then seen stage.ObjectiveFirst stage.ObjectiveLabel stage.ObjectiveBegin draft (symbol ∷ symbols) between rest (IsBetween ast) (IsBetween ast)
    (flagged_fits seen stage.ObjectiveFirst stage.ObjectiveLabel draft n place true (symbol ∷ symbols) between (IsBetween ast) colons (fits_shared stage.ObjectiveFirst symbol refl) refl is
    (flagged_label n place (symbol ∷ symbols) between colons (says_colon between rest colon) named))
    (λ d holds known. says_goes seen stage.ObjectiveLabel stage.ObjectiveBegin d Colon between rest (IsBetween ast) known refl refl refl (λ p. holds) colon)

pub objective_goes : (seen : Seen) (ast : Ast) (terms : List AstTerm) (draft : Draft) (symbols between rest : List Symbol) → IsBetween ast draft → KnowColons symbols → ObjectiveOf terms symbols between
    → RowsHeading between rest → GoesOn seen stage.ObjectiveFirst draft symbols stage.RowsBegin (IsBetween (objective_added ast terms)) rest
objective_goes seen ast terms draft symbols between rest is colons (behind_label, inl label, body) heading =
    goes_then seen stage.ObjectiveFirst stage.ObjectiveBegin stage.RowsBegin draft symbols behind_label rest (IsBetween ast) (IsBetween (objective_added ast terms))
    (objective_label_goes seen ast draft symbols behind_label is colons label)
    (λ d holds known. body_goes seen ast stage.ObjectiveBegin terms d behind_label between rest objective_begin holds known body heading)
objective_goes seen ast terms draft symbols between rest is colons (behind_label, inr same, body) heading =
    body_goes seen ast stage.ObjectiveFirst terms draft symbols between rest objective_first is colons (subst (λ xs. Terms ObjectiveTerm terms xs between) (sym same) body) heading
