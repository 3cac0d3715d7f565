-- Bounds are read.
use Rattle.std.proofs.Common.{◌≡◌, ℕ, Bool, true, false, List, [], ◌∷◌, ◌++◌, ◌⊎◌, inl, inr, Option, Some, None, flat_map, refl, sym, ap, subst, ◌∙◌, append_assoc, append-nil}
use Rattle.qm_math.specs.Fraction.{Fraction}
use Rattle.qm_lex.specs.declared.place.Place.{Place}
use Rattle.qm_lex.specs.declared.token.Keyword.{Keyword}
use Rattle.qm_parse.specs.declared.ast.Ast.{Ast}
use Rattle.qm_parse.specs.declared.ast.AstBound.{AstBound}
use Rattle.qm_parse.specs.declared.ast.Relation.{Relation}
use Rattle.qm_parse.specs.declared.ast.Relation.TheVariants.{Less, Greater, Equal}
use Rattle.qm_parse.specs.declared.draft.Draft.{Draft}
use Rattle.qm_parse.specs.declared.stage.NameList.{NameList}
use Rattle.qm_parse.specs.declared.stage.Seen.{Seen}
use Rattle.qm_parse.specs.declared.stage.Stage.{Stage}
use Rattle.qm_parse.specs.declared.stage.Stage.TheVariants as stage
use Rattle.qm_parse.specs.declared.word.Symbol.{Symbol}
use Rattle.qm_parse.specs.declared.word.Word.{Word}
use Rattle.qm_parse.specs.declared.word.Word.TheVariants.{Name, Number, Sign, Related, Keyword as Reserved, Infinite, Free}
use Rattle.qm_parse.specs.Drafts.{bound_noted, bounded_noted, list_noted, noted, row_begin_noted, signed, signed_by, turned, turned_noted, value_by, with_bound, with_bounded, with_free, with_name, with_relation, with_turned, with_value}
use Rattle.qm_parse.specs.Parts.{BoundOf, BoundBody, BoundEnds, Each, FreeName, Further, NameAt, NameFirst, OneBound, Says, SignOf, Value, ValueFirst, is_odd}
use Rattle.qm_parse.specs.Reading.{leaves, read}
use Rattle.qm_parse.specs.Stages.{bound_begun, may_end, may_share_line, row_begun, step}
use Rattle.qm_parse.specs.Texts.{KnowColons}
use Rattle.qm_parse.proofs.ReadSteps.{AreReadAs, GoesOn, fits_begun, fits_shared, goes_nowhere, goes_same, goes_then, reads_same, state_at}
use Rattle.qm_parse.proofs.ReadSigns.{bound_signs, bounded_signs, signed_negative, signs_colons, signs_read}
use Rattle.qm_parse.proofs.ReadWords.{FirstFits, name_fits, name_goes, says_goes}
use Rattle.qm_parse.proofs.ReadRows.{IsBetween}
use Rattle.qm_parse.proofs.ReadObjectives.{SignedDraft, signed_is}

-- a stage behind which a section may begin
pub record PartEnds (s : Stage) : Type 0 where
  pub ends : may_end s ≡ true
  pub steps : (reserved : Keyword) → step s (Reserved reserved) ≡ None
  pub shares : (reserved : Keyword) → may_share_line s (Reserved reserved) ≡ true
  pub keeps : (uncertain : Bool) (reserved : Keyword) (at : Place) (draft : Draft) → noted s uncertain (Reserved reserved) at draft ≡ draft

pub rows_begin_ends : PartEnds stage.RowsBegin
unfolding may_end step row_begun may_share_line noted row_begin_noted
rows_begin_ends = record { ends = refl; steps = λ k. refl; shares = λ k. refl; keeps = λ u k at d. refl }

pub row_end_ends : PartEnds stage.RowEnd
unfolding may_end step row_begun may_share_line noted row_begin_noted
row_end_ends = record { ends = refl; steps = λ k. refl; shares = λ k. refl; keeps = λ u k at d. refl }

pub bounds_begin_ends : PartEnds stage.BoundsBegin
unfolding may_end step bound_begun may_share_line noted bound_noted
bounds_begin_ends = record { ends = refl; steps = λ k. refl; shares = λ k. refl; keeps = λ u k at d. refl }

pub bound_named_ends : PartEnds stage.BoundNamed
unfolding may_end step bound_begun may_share_line noted bound_noted
bound_named_ends = record { ends = refl; steps = λ k. refl; shares = λ k. refl; keeps = λ u k at d. refl }

pub bound_end_ends : PartEnds stage.BoundEnd
unfolding may_end step bound_begun may_share_line noted bound_noted
bound_end_ends = record { ends = refl; steps = λ k. refl; shares = λ k. refl; keeps = λ u k at d. refl }

pub names_ends : (list : NameList) → PartEnds (stage.Names list)
unfolding may_end step may_share_line noted list_noted
names_ends list = record { ends = refl; steps = λ k. refl; shares = λ k. refl; keeps = λ u k at d. refl }

-- a stage where a bound may begin
pub record BoundBegins (s : Stage) : Type 0 where
  pub signs : (minus : Bool) → step s (Sign minus) ≡ Some stage.BoundSigned
  pub numbers : (value : Fraction) → step s (Number (Some value)) ≡ Some stage.BoundValue
  pub infinite : step s Infinite ≡ Some stage.BoundValue
  pub names : (n : ℕ) (labels : Bool) → step s (Name n labels) ≡ Some stage.BoundName
  pub notes : (uncertain : Bool) (word : Word) (at : Place) (draft : Draft) → noted s uncertain word at draft ≡ bound_noted word at draft
  pub ends : PartEnds s

pub bounds_begin : BoundBegins stage.BoundsBegin
unfolding step bound_begun noted
bounds_begin = record { signs = λ m. refl; numbers = λ v. refl; infinite = refl; names = λ n l. refl; notes = λ u w at d. refl; ends = bounds_begin_ends }

bound_named : BoundBegins stage.BoundNamed
unfolding step bound_begun noted
bound_named = record { signs = λ m. refl; numbers = λ v. refl; infinite = refl; names = λ n l. refl; notes = λ u w at d. refl; ends = bound_named_ends }

bound_end : BoundBegins stage.BoundEnd
unfolding step bound_begun noted
bound_end = record { signs = λ m. refl; numbers = λ v. refl; infinite = refl; names = λ n l. refl; notes = λ u w at d. refl; ends = bound_end_ends }

abbrev pub bounds_added : Ast → List AstBound → Ast
bounds_added ast bounds = record ast { bounds = ast.bounds ++ bounds }

bounds_added-none : (ast : Ast) → bounds_added ast [] ≡ ast
bounds_added-none ast = ap (λ bounds. record ast { bounds = bounds }) (append-nil ast.bounds)

bounds_added-more : (ast : Ast) (one other : List AstBound) → bounds_added (bounds_added ast one) other ≡ bounds_added ast (one ++ other)
bounds_added-more ast one other = ap (λ all. record ast { bounds = all }) (append_assoc ast.bounds one other)

bound_made : (bound : AstBound) (n : ℕ) (relation : Relation) (value : Option Fraction) (at : Place) → n ≡ bound.name → relation ≡ bound.relation → value ≡ bound.value → at ≡ bound.at
    → record { name = n; relation = relation; value = value; at = at } ≡ bound
bound_made bound n relation value at names relations values places =
    ap (λ m. record { name = m; relation = relation; value = value; at = at }) names
    ∙ ap (λ r. record { name = bound.name; relation = r; value = value; at = at }) relations
    ∙ ap (λ v. record { name = bound.name; relation = bound.relation; value = v; at = at }) values
    ∙ ap (λ p. record { name = bound.name; relation = bound.relation; value = bound.value; at = p }) places

bound_is : (ast : Ast) (draft : Draft) (made bound : AstBound) → draft.ast ≡ ast → draft.terms ≡ [] → made ≡ bound → IsBetween (bounds_added ast (bound ∷ [])) (with_bound made draft)
unfolding with_bound
bound_is ast draft made bound ast_is terms_are same = record {
  ast_is = ap (λ a. bounds_added a (made ∷ [])) ast_is ∙ ap (λ b. bounds_added ast (b ∷ [])) same;
  terms_are = terms_are;
  sign_is = refl;
}

-- ---- the value behind a name

-- the draft behind the name of a bound
pub record NamedDraft (ast : Ast) (bound : AstBound) (negative : Bool) (draft : Draft) : Type 0 where
  pub ast_is : draft.ast ≡ ast
  pub terms_are : draft.terms ≡ []
  pub name_is : draft.name ≡ bound.name
  pub at_is : draft.at ≡ bound.at
  pub sign_is : draft.negative ≡ negative

-- the same, with its relation
abbrev RelatedDraft : Ast → AstBound → Bool → Draft → Type 0
RelatedDraft ast bound negative draft = NamedDraft ast bound negative draft × (draft.relation ≡ bound.relation)

bounded_is : (ast : Ast) (bound : AstBound) (negative : Bool) (value : Option Fraction) (draft : Draft) → RelatedDraft ast bound negative draft → value_by negative value ≡ bound.value
    → IsBetween (bounds_added ast (bound ∷ [])) (with_bounded value draft)
unfolding with_bounded
bounded_is ast bound negative value draft is same =
    bound_is ast draft (record { name = draft.name; relation = draft.relation; value = value_by draft.negative value; at = draft.at }) bound is.0.ast_is is.0.terms_are
    (bound_made bound draft.name draft.relation (value_by draft.negative value) draft.at is.0.name_is is.1 (ap (λ b. value_by b value) is.0.sign_is ∙ same) is.0.at_is)

bounded_signs_go : (seen : Seen) (ast : Ast) (bound : AstBound) (draft : Draft) (signs : List Bool) (symbols rest : List Symbol) → RelatedDraft ast bound false draft → KnowColons symbols
    → Each SignOf signs symbols rest → GoesOn seen stage.BoundRelation draft symbols stage.BoundRelation (RelatedDraft ast bound (is_odd signs)) rest
unfolding signed
bounded_signs_go seen ast bound draft signs symbols rest is colons p = (
  signed (is_odd signs) draft,
  (record { ast_is = is.0.ast_is; terms_are = is.0.terms_are; name_is = is.0.name_is; at_is = is.0.at_is; sign_is = signed_negative (is_odd signs) draft is.0.sign_is }, is.1),
  signs_colons signs symbols rest colons p,
  signs_read stage.BoundRelation seen draft signs symbols rest bounded_signs p,
)

value_of_number : (negative : Bool) (value q : Fraction) → value ≡ signed_by negative q → value_by negative (Some q) ≡ Some value
unfolding value_by
value_of_number negative value q same = ap (λ v. Some v) (sym same)

value_of_infinite : (negative : Bool) → value_by negative None ≡ None
unfolding value_by
value_of_infinite negative = refl

bounded_goes : (seen : Seen) (ast : Ast) (bound : AstBound) (value : Option Fraction) (draft : Draft) (symbols rest : List Symbol) → value ≡ bound.value → RelatedDraft ast bound false draft → KnowColons symbols
    → Value value symbols rest → GoesOn seen stage.BoundRelation draft symbols stage.BoundEnd (IsBetween (bounds_added ast (bound ∷ []))) rest
unfolding step may_share_line leaves noted bounded_noted
bounded_goes seen ast bound (Some value) draft symbols rest same is colons (signs, (between, signs_are, (q, value_is, number))) =
    goes_then seen stage.BoundRelation stage.BoundRelation stage.BoundEnd draft symbols between rest (RelatedDraft ast bound (is_odd signs)) (IsBetween (bounds_added ast (bound ∷ [])))
    (bounded_signs_go seen ast bound draft signs symbols between is colons signs_are)
    (λ d holds known. says_goes seen stage.BoundRelation stage.BoundEnd d (Number (Some q)) between rest (IsBetween (bounds_added ast (bound ∷ []))) known refl refl refl
    (λ at. bounded_is ast bound (is_odd signs) (Some q) d holds (value_of_number (is_odd signs) value q value_is ∙ same)) number)
bounded_goes seen ast bound None draft symbols rest same is colons (signs, (between, signs_are, infinite)) =
    goes_then seen stage.BoundRelation stage.BoundRelation stage.BoundEnd draft symbols between rest (RelatedDraft ast bound (is_odd signs)) (IsBetween (bounds_added ast (bound ∷ [])))
    (bounded_signs_go seen ast bound draft signs symbols between is colons signs_are)
    (λ d holds known. says_goes seen stage.BoundRelation stage.BoundEnd d Infinite between rest (IsBetween (bounds_added ast (bound ∷ []))) known refl refl refl
    (λ at. bounded_is ast bound (is_odd signs) None d holds (value_of_infinite (is_odd signs) ∙ same)) infinite)

related_is : (ast : Ast) (bound : AstBound) (draft : Draft) → NamedDraft ast bound false draft → RelatedDraft ast bound false (with_relation bound.relation draft)
unfolding with_relation
related_is ast bound draft is = (record { ast_is = is.ast_is; terms_are = is.terms_are; name_is = is.name_is; at_is = is.at_is; sign_is = is.sign_is }, refl)

-- a relation and a value behind a name
related_goes : (seen : Seen) (ast : Ast) (bound : AstBound) (s : Stage) (draft : Draft) (symbols between rest : List Symbol)
    → may_share_line s (Related bound.relation) ≡ true → step s (Related bound.relation) ≡ Some stage.BoundRelation
    → ((at : Place) → noted s seen.uncertainty (Related bound.relation) at draft ≡ with_relation bound.relation draft)
    → NamedDraft ast bound false draft → KnowColons symbols → Says (Related bound.relation) symbols between → Value bound.value between rest
    → GoesOn seen s draft symbols stage.BoundEnd (IsBetween (bounds_added ast (bound ∷ []))) rest
unfolding leaves
related_goes seen ast bound s draft symbols between rest shares steps notes is colons related value =
    goes_then seen s stage.BoundRelation stage.BoundEnd draft symbols between rest (RelatedDraft ast bound false) (IsBetween (bounds_added ast (bound ∷ [])))
    (says_goes seen s stage.BoundRelation draft (Related bound.relation) symbols between (RelatedDraft ast bound false) colons shares steps refl
    (λ at. subst (RelatedDraft ast bound false) (sym (notes at)) (related_is ast bound draft is)) related)
    (λ d holds known. bounded_goes seen ast bound bound.value d between rest refl holds known value)

-- ---- a name that begins a bound

named_is : (ast : Ast) (bound : AstBound) (draft : Draft) → IsBetween ast draft → NamedDraft ast bound false (with_name bound.name bound.at draft)
unfolding with_name
named_is ast bound draft is = record { ast_is = is.ast_is; terms_are = is.terms_are; name_is = refl; at_is = refl; sign_is = is.sign_is }

name_goes_first : (seen : Seen) (ast : Ast) (s : Stage) (bound : AstBound) (draft : Draft) (symbols rest : List Symbol) → BoundBegins s → IsBetween ast draft → KnowColons symbols → FirstFits s symbols
    → NameAt bound.name bound.at symbols rest → GoesOn seen s draft symbols stage.BoundName (NamedDraft ast bound false) rest
unfolding bound_noted
name_goes_first seen ast s bound draft symbols rest begins is colons fits named =
    name_fits seen s stage.BoundName draft bound.name bound.at symbols rest (NamedDraft ast bound false) colons fits (begins.names bound.name)
    (λ labels. subst (NamedDraft ast bound false) (sym (begins.notes seen.uncertainty (Name bound.name labels) bound.at draft)) (named_is ast bound draft is)) named

name_first_goes : (seen : Seen) (ast : Ast) (s : Stage) (bound : AstBound) (draft : Draft) (symbols rest : List Symbol) → BoundBegins s → IsBetween ast draft → KnowColons symbols → FirstFits s symbols
    → NameFirst bound symbols rest → GoesOn seen s draft symbols stage.BoundEnd (IsBetween (bounds_added ast (bound ∷ []))) rest
unfolding step may_share_line noted bound_noted
name_first_goes seen ast s bound draft symbols rest begins is colons fits (behind_name, named, (behind_relation, related, value)) =
    goes_then seen s stage.BoundName stage.BoundEnd draft symbols behind_name rest (NamedDraft ast bound false) (IsBetween (bounds_added ast (bound ∷ [])))
    (name_goes_first seen ast s bound draft symbols behind_name begins is colons fits named)
    (λ d holds known. related_goes seen ast bound stage.BoundName d behind_name behind_relation rest refl refl (λ at. refl) holds known related value)

free_is : (ast : Ast) (bound : AstBound) (draft : Draft) → bound.relation ≡ Less → bound.value ≡ None → NamedDraft ast bound false draft → IsBetween (bounds_added ast (bound ∷ [])) (with_free draft)
unfolding with_free
free_is ast bound draft relation value is =
    bound_is ast draft (record { name = draft.name; relation = Less; value = None; at = draft.at }) bound is.ast_is is.terms_are
    (bound_made bound draft.name Less None draft.at is.name_is (sym relation) (sym value) is.at_is)

free_goes : (seen : Seen) (ast : Ast) (s : Stage) (bound : AstBound) (draft : Draft) (symbols rest : List Symbol) → BoundBegins s → IsBetween ast draft → KnowColons symbols → FirstFits s symbols
    → FreeName bound symbols rest → GoesOn seen s draft symbols stage.BoundEnd (IsBetween (bounds_added ast (bound ∷ []))) rest
unfolding step may_share_line leaves noted bound_noted
free_goes seen ast s bound draft symbols rest begins is colons fits (relation, value, (behind_name, named, free)) =
    goes_then seen s stage.BoundName stage.BoundEnd draft symbols behind_name rest (NamedDraft ast bound false) (IsBetween (bounds_added ast (bound ∷ [])))
    (name_goes_first seen ast s bound draft symbols behind_name begins is colons fits named)
    (λ d holds known. says_goes seen stage.BoundName stage.BoundEnd d Free behind_name rest (IsBetween (bounds_added ast (bound ∷ []))) known refl refl refl (λ at. free_is ast bound d relation value holds) free)

-- ---- a value that begins a bound

-- a sign or a value stands first
abbrev BeginsValue : List Symbol → Type 0
BeginsValue [] = ⊥
BeginsValue (symbol ∷ symbols) = ((minus : Bool) × (symbol.word ≡ Sign minus)) ⊎ ((value : Fraction) × (symbol.word ≡ Number (Some value))) ⊎ (symbol.word ≡ Infinite)

sign_begins : (minus : Bool) (symbols rest : List Symbol) → SignOf minus symbols rest → BeginsValue symbols
sign_begins minus [] rest p = absurd p
sign_begins minus (symbol ∷ symbols) rest p = inl (minus, p.0)

number_begins : (value : Fraction) (symbols rest : List Symbol) → Says (Number (Some value)) symbols rest → BeginsValue symbols
number_begins value [] rest p = absurd p
number_begins value (symbol ∷ symbols) rest p = inr (inl (value, p.0))

infinite_begins : (symbols rest : List Symbol) → Says Infinite symbols rest → BeginsValue symbols
infinite_begins [] rest p = absurd p
infinite_begins (symbol ∷ symbols) rest p = inr (inr p.0)

value_begins : (value : Option Fraction) (symbols rest : List Symbol) → Value value symbols rest → BeginsValue symbols
value_begins (Some value) symbols rest ([], (between, same, (q, value_is, number))) = subst BeginsValue (sym same) (number_begins q between rest number)
value_begins (Some value) symbols rest (minus ∷ signs, (between, signs_are, number)) = sign_begins minus symbols signs_are.0 signs_are.1
value_begins None symbols rest ([], (between, same, infinite)) = subst BeginsValue (sym same) (infinite_begins between rest infinite)
value_begins None symbols rest (minus ∷ signs, (between, signs_are, infinite)) = sign_begins minus symbols signs_are.0 signs_are.1

-- where a value begins a bound, it may as well stand behind signs
value_as_signed : (seen : Seen) (s : Stage) (draft : Draft) (symbols : List Symbol) → BoundBegins s → FirstFits s symbols → BeginsValue symbols
    → AreReadAs (state_at s seen) draft symbols (state_at stage.BoundSigned seen) draft symbols
unfolding step may_share_line leaves noted
value_as_signed seen s draft [] begins fits p = absurd p
value_as_signed seen s draft (symbol ∷ symbols) begins fits (inl sign) =
    reads_same s stage.BoundSigned stage.BoundSigned seen draft draft symbol symbols (Sign sign.0) sign.1
    fits (fits_shared stage.BoundSigned symbol refl) (begins.signs sign.0) refl refl (begins.notes seen.uncertainty (Sign sign.0) symbol.place draft)
value_as_signed seen s draft (symbol ∷ symbols) begins fits (inr (inl number)) =
    reads_same s stage.BoundSigned stage.BoundValue seen draft draft symbol symbols (Number (Some number.0)) number.1
    fits (fits_shared stage.BoundSigned symbol refl) (begins.numbers number.0) refl refl (begins.notes seen.uncertainty (Number (Some number.0)) symbol.place draft)
value_as_signed seen s draft (symbol ∷ symbols) begins fits (inr (inr infinite)) =
    reads_same s stage.BoundSigned stage.BoundValue seen draft draft symbol symbols Infinite infinite
    fits (fits_shared stage.BoundSigned symbol refl) begins.infinite refl refl (begins.notes seen.uncertainty Infinite symbol.place draft)

-- the draft behind the value that begins a bound
abbrev ValuedDraft : Ast → Option Fraction → Draft → Type 0
ValuedDraft ast value draft = IsBetween ast draft × (draft.value ≡ value)

value_is : (ast : Ast) (negative : Bool) (value made : Option Fraction) (draft : Draft) → SignedDraft ast negative draft → value_by negative made ≡ value → ValuedDraft ast value (with_value made draft)
unfolding with_value
value_is ast negative value made draft is same = (record { ast_is = is.ast_is; terms_are = is.terms_are; sign_is = refl }, ap (λ b. value_by b made) is.sign_is ∙ same)

first_signs_go : (seen : Seen) (ast : Ast) (draft : Draft) (signs : List Bool) (symbols rest : List Symbol) → IsBetween ast draft → KnowColons symbols → Each SignOf signs symbols rest
    → GoesOn seen stage.BoundSigned draft symbols stage.BoundSigned (SignedDraft ast (is_odd signs)) rest
first_signs_go seen ast draft signs symbols rest is colons p =
    (signed (is_odd signs) draft, signed_is ast (is_odd signs) draft is, signs_colons signs symbols rest colons p, signs_read stage.BoundSigned seen draft signs symbols rest bound_signs p)

signed_value_goes : (seen : Seen) (ast : Ast) (value : Option Fraction) (draft : Draft) (symbols rest : List Symbol) → IsBetween ast draft → KnowColons symbols → Value value symbols rest
    → GoesOn seen stage.BoundSigned draft symbols stage.BoundValue (ValuedDraft ast value) rest
unfolding step may_share_line leaves noted bound_noted
signed_value_goes seen ast (Some value) draft symbols rest is colons (signs, (between, signs_are, (q, same, number))) =
    goes_then seen stage.BoundSigned stage.BoundSigned stage.BoundValue draft symbols between rest (SignedDraft ast (is_odd signs)) (ValuedDraft ast (Some value))
    (first_signs_go seen ast draft signs symbols between is colons signs_are)
    (λ d holds known. says_goes seen stage.BoundSigned stage.BoundValue d (Number (Some q)) between rest (ValuedDraft ast (Some value)) known refl refl refl
    (λ at. value_is ast (is_odd signs) (Some value) (Some q) d holds (value_of_number (is_odd signs) value q same)) number)
signed_value_goes seen ast None draft symbols rest is colons (signs, (between, signs_are, infinite)) =
    goes_then seen stage.BoundSigned stage.BoundSigned stage.BoundValue draft symbols between rest (SignedDraft ast (is_odd signs)) (ValuedDraft ast None)
    (first_signs_go seen ast draft signs symbols between is colons signs_are)
    (λ d holds known. says_goes seen stage.BoundSigned stage.BoundValue d Infinite between rest (ValuedDraft ast None) known refl refl refl
    (λ at. value_is ast (is_odd signs) None None d holds (value_of_infinite (is_odd signs))) infinite)

turned_twice : (relation : Relation) → turned (turned relation) ≡ relation
unfolding turned
turned_twice Less = refl
turned_twice Greater = refl
turned_twice Equal = refl

-- the draft behind the relation that follows such a value
abbrev TurnedDraft : Ast → Option Fraction → Relation → Draft → Type 0
TurnedDraft ast value relation draft = ValuedDraft ast value draft × (draft.relation ≡ relation)

turned_is : (ast : Ast) (value : Option Fraction) (relation : Relation) (draft : Draft) → ValuedDraft ast value draft → TurnedDraft ast value relation (with_relation relation draft)
unfolding with_relation
turned_is ast value relation draft is = ((record { ast_is = is.0.ast_is; terms_are = is.0.terms_are; sign_is = is.0.sign_is }, is.1), refl)

-- the draft behind the name that follows them: the bound was added, and its name is kept
abbrev BoundedDraft : Ast → AstBound → Draft → Type 0
BoundedDraft ast bound draft = IsBetween (bounds_added ast (bound ∷ [])) draft × (draft.name ≡ bound.name) × (draft.at ≡ bound.at)

turned_name_is : (ast : Ast) (bound : AstBound) (draft : Draft) → TurnedDraft ast bound.value (turned bound.relation) draft → BoundedDraft ast bound (with_turned bound.name bound.at draft)
unfolding with_turned with_name with_bound
turned_name_is ast bound draft is = (
  bound_is ast (with_name bound.name bound.at draft) (record { name = bound.name; relation = turned draft.relation; value = draft.value; at = bound.at }) bound is.0.0.ast_is is.0.0.terms_are
      (bound_made bound bound.name (turned draft.relation) draft.value bound.at refl (ap turned is.1 ∙ turned_twice bound.relation) is.0.1 refl),
  refl,
  refl,
)

value_first_goes : (seen : Seen) (ast : Ast) (s : Stage) (bound : AstBound) (draft : Draft) (symbols rest : List Symbol) → BoundBegins s → IsBetween ast draft → KnowColons symbols → FirstFits s symbols
    → ValueFirst bound symbols rest → GoesOn seen s draft symbols stage.BoundNamed (BoundedDraft ast bound) rest
unfolding step may_share_line leaves noted bound_noted turned_noted
value_first_goes seen ast s bound draft symbols rest begins is colons fits (behind_value, value, (behind_relation, related, named)) =
    goes_same seen s stage.BoundSigned stage.BoundNamed draft draft symbols rest (BoundedDraft ast bound) (value_as_signed seen s draft symbols begins fits (value_begins bound.value symbols behind_value value))
    (goes_then seen stage.BoundSigned stage.BoundValue stage.BoundNamed draft symbols behind_value rest (ValuedDraft ast bound.value) (BoundedDraft ast bound)
    (signed_value_goes seen ast bound.value draft symbols behind_value is colons value)
    (λ d holds known.
    goes_then seen stage.BoundValue stage.BoundTurned stage.BoundNamed d behind_value behind_relation rest (TurnedDraft ast bound.value (turned bound.relation)) (BoundedDraft ast bound)
    (says_goes seen stage.BoundValue stage.BoundTurned d (Related (turned bound.relation)) behind_value behind_relation (TurnedDraft ast bound.value (turned bound.relation)) known refl refl refl
    (λ at. turned_is ast bound.value (turned bound.relation) d holds) related)
    (λ e there later. name_goes seen stage.BoundTurned stage.BoundNamed e bound.name bound.at behind_relation rest (BoundedDraft ast bound) later (λ labels. refl) (λ labels. refl)
    (λ labels. turned_name_is ast bound e there) named)))

-- ---- bounds

-- behind a bound: further bounds or a section
abbrev BoundRead : Seen → Stage → Ast → List AstBound → Draft → List Symbol → List Symbol → Type 0
BoundRead seen s ast bounds draft symbols rest =
    (next : Stage) × ((next ≡ stage.BoundEnd) ⊎ (next ≡ stage.BoundNamed)) × GoesOn seen s draft symbols next (IsBetween (bounds_added ast bounds)) rest

one_bound_goes : (seen : Seen) (ast : Ast) (s : Stage) (bound : AstBound) (draft : Draft) (symbols rest : List Symbol) → BoundBegins s → IsBetween ast draft → KnowColons symbols → FirstFits s symbols
    → OneBound bound symbols rest → BoundRead seen s ast (bound ∷ []) draft symbols rest
one_bound_goes seen ast s bound draft symbols rest begins is colons fits (inl named) =
    (stage.BoundEnd, inl refl, name_first_goes seen ast s bound draft symbols rest begins is colons fits named)
one_bound_goes seen ast s bound draft symbols rest begins is colons fits (inr (inl free)) =
    (stage.BoundEnd, inl refl, free_goes seen ast s bound draft symbols rest begins is colons fits free)
one_bound_goes seen ast s bound draft symbols rest begins is colons fits (inr (inr valued)) =
    let (d, holds, known, reads) = value_first_goes seen ast s bound draft symbols rest begins is colons fits valued in
    (stage.BoundNamed, inr refl, (d, holds.0, known, reads))

further_is : (ast : Ast) (bound further : AstBound) (draft : Draft) → further.name ≡ bound.name → further.at ≡ bound.at → BoundedDraft ast bound draft → NamedDraft (bounds_added ast (bound ∷ [])) further false draft
further_is ast bound further draft name at is =
    record { ast_is = is.0.ast_is; terms_are = is.0.terms_are; name_is = is.1 ∙ sym name; at_is = is.2 ∙ sym at; sign_is = is.0.sign_is }

further_goes : (seen : Seen) (ast : Ast) (bound further : AstBound) (draft : Draft) (symbols rest : List Symbol) → BoundedDraft ast bound draft → KnowColons symbols → Further bound further symbols rest
    → GoesOn seen stage.BoundNamed draft symbols stage.BoundEnd (IsBetween (bounds_added (bounds_added ast (bound ∷ [])) (further ∷ []))) rest
unfolding step may_share_line noted bound_noted
further_goes seen ast bound further draft symbols rest is colons (name, at, (between, related, value)) =
    related_goes seen (bounds_added ast (bound ∷ [])) further stage.BoundNamed draft symbols between rest refl refl (λ at. refl) (further_is ast bound further draft name at is) colons related value

bound_body_goes : (seen : Seen) (ast : Ast) (s : Stage) (bounds : List AstBound) (draft : Draft) (symbols rest : List Symbol) → BoundBegins s → IsBetween ast draft → KnowColons symbols → FirstFits s symbols
    → BoundBody bounds symbols rest → BoundRead seen s ast bounds draft symbols rest
bound_body_goes seen ast s bounds draft symbols rest begins is colons fits (inl (bound, same, one)) =
    subst (λ bs. BoundRead seen s ast bs draft symbols rest) (sym same) (one_bound_goes seen ast s bound draft symbols rest begins is colons fits one)
bound_body_goes seen ast s bounds draft symbols rest begins is colons fits (inr (bound, further, same, (between, first, second))) =
    let (d, holds, known, reads) = value_first_goes seen ast s bound draft symbols between begins is colons fits first in
    let (e, all, last, further_reads) = further_goes seen ast bound further d between rest holds known second in
    subst (λ bs. BoundRead seen s ast bs draft symbols rest) (sym same) (
      stage.BoundEnd,
      inl refl,
      (e, subst (λ a. IsBetween a e) (bounds_added-more ast (bound ∷ []) (further ∷ [])) all, last, λ end. reads end ∙ further_reads end),
    )

-- behind a bound the next token fits the line
bound_ends_fit : (symbols rest : List Symbol) → BoundEnds symbols rest → (symbols ≡ rest) × FirstFits stage.BoundEnd rest × FirstFits stage.BoundNamed rest
unfolding may_share_line
bound_ends_fit [] rest p = (p, subst (FirstFits stage.BoundEnd) p tt, subst (FirstFits stage.BoundNamed) p tt)
bound_ends_fit (symbol ∷ symbols) rest (inl begins, same) =
    (same, subst (FirstFits stage.BoundEnd) same (fits_begun stage.BoundEnd symbol begins), subst (FirstFits stage.BoundNamed) same (fits_begun stage.BoundNamed symbol begins))
bound_ends_fit (symbol ∷ symbols) rest (inr reserved, same) = (
  same,
  subst (FirstFits stage.BoundEnd) same (fits_shared stage.BoundEnd symbol (ap (may_share_line stage.BoundEnd) reserved.1)),
  subst (FirstFits stage.BoundNamed) same (fits_shared stage.BoundNamed symbol (ap (may_share_line stage.BoundNamed) reserved.1)),
)

-- where the next bound may begin
next_begins : (next : Stage) (rest : List Symbol) → (next ≡ stage.BoundEnd) ⊎ (next ≡ stage.BoundNamed) → FirstFits stage.BoundEnd rest → FirstFits stage.BoundNamed rest → BoundBegins next × FirstFits next rest
next_begins next rest (inl e) at_end named = (subst BoundBegins (sym e) bound_end, subst (λ s. FirstFits s rest) (sym e) at_end)
next_begins next rest (inr e) at_end named = (subst BoundBegins (sym e) bound_named, subst (λ s. FirstFits s rest) (sym e) named)

pub bound_goes : (seen : Seen) (ast : Ast) (s : Stage) (bounds : List AstBound) (draft : Draft) (symbols rest : List Symbol) → BoundBegins s → IsBetween ast draft → KnowColons symbols → FirstFits s symbols
    → BoundOf bounds symbols rest → (next : Stage) × BoundBegins next × FirstFits next rest × GoesOn seen s draft symbols next (IsBetween (bounds_added ast bounds)) rest
bound_goes seen ast s bounds draft symbols rest begins is colons fits (behind, body, ends) =
    let (next, where_next, (d, holds, known, reads)) = bound_body_goes seen ast s bounds draft symbols behind begins is colons fits body in
    let ended = bound_ends_fit behind rest ends in
    let (next_is, next_fits) = next_begins next rest where_next ended.1 ended.2 in
    (next, next_is, next_fits, (d, holds, subst KnowColons ended.0 known, λ end. reads end ∙ ap (λ xs. read (state_at next seen) d xs end) ended.0))

pub bounds_go : (seen : Seen) (ast : Ast) (s : Stage) (bounds : List (List AstBound)) (draft : Draft) (symbols rest : List Symbol) → BoundBegins s → IsBetween ast draft → KnowColons symbols → FirstFits s symbols
    → Each BoundOf bounds symbols rest → (next : Stage) × PartEnds next × GoesOn seen s draft symbols next (IsBetween (bounds_added ast (flat_map (λ bound. bound) bounds))) rest
bounds_go seen ast s [] draft symbols rest begins is colons fits p =
    (s, begins.ends, goes_nowhere seen s draft symbols rest (IsBetween (bounds_added ast [])) p (subst (λ a. IsBetween a draft) (sym (bounds_added-none ast)) is) colons)
bounds_go seen ast s (bound ∷ bounds) draft symbols rest begins is colons fits (between, first, others) =
    let (middle, middle_begins, middle_fits, (d, holds, known, reads)) = bound_goes seen ast s bound draft symbols between begins is colons fits first in
    let (next, ends, (e, all, last, further)) = bounds_go seen (bounds_added ast bound) middle bounds d between rest middle_begins holds known middle_fits others in
    (next, ends, (e, subst (λ a. IsBetween a e) (bounds_added-more ast bound (flat_map (λ b. b) bounds)) all, last, λ end. reads end ∙ further end))
