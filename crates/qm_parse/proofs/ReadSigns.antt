-- Signs, one behind the other, are read.
use Rattle.std.proofs.Common.{◌≡◌, Bool, true, false, not, List, [], ◌∷◌, Some, refl, sym, ap, subst, ◌∙◌}
use Rattle.qm_lex.specs.declared.place.Place.{Place}
use Rattle.qm_parse.specs.declared.draft.Draft.{Draft}
use Rattle.qm_parse.specs.declared.stage.Seen.{Seen}
use Rattle.qm_parse.specs.declared.stage.Stage.{Stage}
use Rattle.qm_parse.specs.declared.stage.Stage.TheVariants.{ObjectiveSigned, RowSigned, RowRelation, BoundSigned, BoundRelation}
use Rattle.qm_parse.specs.declared.word.Symbol.{Symbol}
use Rattle.qm_parse.specs.declared.word.Word.TheVariants.{Sign}
use Rattle.qm_parse.specs.Drafts.{noted, objective_noted, row_noted, right_noted, bound_noted, bounded_noted, signed}
use Rattle.qm_parse.specs.Parts.{Each, SignOf, is_odd}
use Rattle.qm_parse.specs.Reading.{leaves, read}
use Rattle.qm_parse.specs.Stages.{may_share_line, step}
use Rattle.qm_parse.specs.Texts.{KnowColons}
use Rattle.qm_parse.proofs.ReadSteps.{state_at, AreReadAs, reads_within}

-- a stage where signs stand one behind the other
pub record TakesSigns (stage : Stage) : Type 0 where
  pub shares : (minus : Bool) → may_share_line stage (Sign minus) ≡ true
  pub steps : (minus : Bool) → step stage (Sign minus) ≡ Some stage
  pub notes : (uncertain minus : Bool) (at : Place) (draft : Draft) → noted stage uncertain (Sign minus) at draft ≡ signed minus draft

pub objective_signs : TakesSigns ObjectiveSigned
unfolding may_share_line step noted objective_noted
objective_signs = record { shares = λ m. refl; steps = λ m. refl; notes = λ u m at d. refl }

pub row_signs : TakesSigns RowSigned
unfolding may_share_line step noted row_noted
row_signs = record { shares = λ m. refl; steps = λ m. refl; notes = λ u m at d. refl }

pub right_signs : TakesSigns RowRelation
unfolding may_share_line step noted right_noted
right_signs = record { shares = λ m. refl; steps = λ m. refl; notes = λ u m at d. refl }

pub bound_signs : TakesSigns BoundSigned
unfolding may_share_line step noted bound_noted
bound_signs = record { shares = λ m. refl; steps = λ m. refl; notes = λ u m at d. refl }

pub bounded_signs : TakesSigns BoundRelation
unfolding may_share_line step noted bounded_noted
bounded_signs = record { shares = λ m. refl; steps = λ m. refl; notes = λ u m at d. refl }

not-not : (b : Bool) → not (not b) ≡ b
not-not true = refl
not-not false = refl

-- no sign leaves the draft as it was
pub signed_plus : (draft : Draft) → signed false draft ≡ draft
unfolding signed
signed_plus draft = refl

signed_twice : (odd : Bool) (draft : Draft) → signed odd (signed true draft) ≡ signed (not odd) draft
unfolding signed
signed_twice true draft = ap (λ b. record draft { negative = b }) (not-not draft.negative)
signed_twice false draft = refl

signed_again : (odd : List Bool) (minus : Bool) (draft : Draft) → signed (is_odd odd) (signed minus draft) ≡ signed (is_odd (minus ∷ odd)) draft
signed_again signs true draft = signed_twice (is_odd signs) draft
signed_again signs false draft = ap (signed (is_odd signs)) (signed_plus draft)

-- the signs before a part that begins with none
pub signed_negative : (odd : Bool) (draft : Draft) → draft.negative ≡ false → (signed odd draft).negative ≡ odd
unfolding signed
signed_negative true draft e = ap not e
signed_negative false draft e = e

sign_word : (minus : Bool) → leaves (Sign minus) ≡ false
unfolding leaves
sign_word minus = refl

pub sign_read : (stage : Stage) (seen : Seen) (draft : Draft) (minus : Bool) (symbols rest : List Symbol) → TakesSigns stage → SignOf minus symbols rest
    → AreReadAs (state_at stage seen) draft symbols (state_at stage seen) (signed minus draft) rest
sign_read stage seen draft minus [] rest takes p = absurd p
sign_read stage seen draft minus (symbol ∷ symbols) rest takes p =
    λ end. reads_within stage stage seen draft symbol symbols (Sign minus) p.0 (takes.shares minus) (takes.steps minus) (sign_word minus) end
    ∙ ap (λ d. read (state_at stage seen) d symbols end) (takes.notes seen.uncertainty minus symbol.place draft)
    ∙ ap (λ xs. read (state_at stage seen) (signed minus draft) xs end) p.1

pub sign_colons : (minus : Bool) (symbols rest : List Symbol) → KnowColons symbols → SignOf minus symbols rest → KnowColons rest
sign_colons minus [] rest colons p = absurd p
sign_colons minus (symbol ∷ symbols) rest colons p = subst KnowColons p.1 colons.1

pub signs_colons : (signs : List Bool) (symbols rest : List Symbol) → KnowColons symbols → Each SignOf signs symbols rest → KnowColons rest
signs_colons [] symbols rest colons p = subst KnowColons p colons
signs_colons (minus ∷ signs) symbols rest colons p = signs_colons signs p.0 rest (sign_colons minus symbols p.0 colons p.1) p.2

pub signs_read : (stage : Stage) (seen : Seen) (draft : Draft) (signs : List Bool) (symbols rest : List Symbol) → TakesSigns stage → Each SignOf signs symbols rest
    → AreReadAs (state_at stage seen) draft symbols (state_at stage seen) (signed (is_odd signs) draft) rest
signs_read stage seen draft [] symbols rest takes p =
    λ end. ap (λ xs. read (state_at stage seen) draft xs end) p ∙ ap (λ d. read (state_at stage seen) d rest end) (sym (signed_plus draft))
signs_read stage seen draft (minus ∷ signs) symbols rest takes p =
    λ end. sign_read stage seen draft minus symbols p.0 takes p.1 end
    ∙ signs_read stage seen (signed minus draft) signs p.0 rest takes p.2 end
    ∙ ap (λ d. read (state_at stage seen) d rest end) (signed_again signs minus draft)
