-- A word that stands first is read.
use Rattle.std.proofs.Common.{◌≡◌, ◌≢◌, ℕ, Bool, true, false, List, [], ◌∷◌, inl, inr, Some, refl, sym, ap, subst, ◌∙◌}
use Rattle.qm_math.specs.Fraction.{Fraction}
use Rattle.qm_lex.specs.declared.place.Place.{Place}
use Rattle.qm_parse.specs.declared.draft.Draft.{Draft}
use Rattle.qm_parse.specs.declared.stage.Seen.{Seen}
use Rattle.qm_parse.specs.declared.stage.Stage.{Stage}
use Rattle.qm_parse.specs.declared.word.Symbol.{Symbol}
use Rattle.qm_parse.specs.declared.word.Word.{Word}
use Rattle.qm_parse.specs.declared.word.Word.TheVariants.{Name, Number, Colon}
use Rattle.qm_parse.specs.Drafts.{noted}
use Rattle.qm_parse.specs.Parts.{NameAt, NumberAt, Says}
use Rattle.qm_parse.specs.Reading.{leaves, read}
use Rattle.qm_parse.specs.Stages.{fits_line, may_share_line, step}
use Rattle.qm_parse.specs.Texts.{KnowColons, is_colon_next}
use Rattle.qm_parse.proofs.ReadSteps.{AreReadAs, GoesOn, fits_shared, reads_word, reads_within, state_at}

-- the first token fits the line
abbrev pub FirstFits : Stage → List Symbol → Type 0
FirstFits stage [] = Unit {0}
FirstFits stage (symbol ∷ symbols) = fits_line stage symbol ≡ true

pub says_colons : (word : Word) (symbols rest : List Symbol) → KnowColons symbols → Says word symbols rest → KnowColons rest
says_colons word [] rest colons p = absurd p
says_colons word (symbol ∷ symbols) rest colons p = subst KnowColons p.1 colons.1

to_rest : (seen : Seen) (stage next : Stage) (draft behind : Draft) (symbols more rest : List Symbol) → more ≡ rest
    → AreReadAs (state_at stage seen) draft symbols (state_at next seen) behind more → AreReadAs (state_at stage seen) draft symbols (state_at next seen) behind rest
to_rest seen stage next draft behind symbols more rest same p = λ end. p end ∙ ap (λ xs. read (state_at next seen) behind xs end) same

-- a word that fits the line
pub says_fits : (seen : Seen) (stage next : Stage) (draft : Draft) (word : Word) (symbols rest : List Symbol) (Behind : Draft → Type 0)
    → KnowColons symbols → FirstFits stage symbols → step stage word ≡ Some next → leaves word ≡ false
    → ((at : Place) → Behind (noted stage seen.uncertainty word at draft)) → Says word symbols rest → GoesOn seen stage draft symbols next Behind rest
says_fits seen stage next draft word [] rest Behind colons fits steps stays behind p = absurd p
says_fits seen stage next draft word (symbol ∷ symbols) rest Behind colons fits steps stays behind p = (
  noted stage seen.uncertainty word symbol.place draft,
  behind symbol.place,
  subst KnowColons p.1 colons.1,
  to_rest seen stage next draft (noted stage seen.uncertainty word symbol.place draft) (symbol ∷ symbols) symbols rest p.1 (reads_word stage next seen draft symbol symbols word p.0 fits steps stays),
)

says_shared : (stage : Stage) (word : Word) (symbols rest : List Symbol) → may_share_line stage word ≡ true → Says word symbols rest → FirstFits stage symbols
says_shared stage word [] rest shares p = absurd p
says_shared stage word (symbol ∷ symbols) rest shares p = fits_shared stage symbol (ap (may_share_line stage) p.0 ∙ shares)

-- a word that may share the line
pub says_goes : (seen : Seen) (stage next : Stage) (draft : Draft) (word : Word) (symbols rest : List Symbol) (Behind : Draft → Type 0)
    → KnowColons symbols → may_share_line stage word ≡ true → step stage word ≡ Some next → leaves word ≡ false
    → ((at : Place) → Behind (noted stage seen.uncertainty word at draft)) → Says word symbols rest → GoesOn seen stage draft symbols next Behind rest
says_goes seen stage next draft word symbols rest Behind colons shares steps stays behind p =
    says_fits seen stage next draft word symbols rest Behind colons (says_shared stage word symbols rest shares p) steps stays behind p

number_stays : (value : Fraction) → leaves (Number (Some value)) ≡ false
unfolding leaves
number_stays value = refl

name_stays : (n : ℕ) (labels : Bool) → leaves (Name n labels) ≡ false
unfolding leaves
name_stays n labels = refl

-- a number at its place
pub number_goes : (seen : Seen) (stage next : Stage) (draft : Draft) (value : Fraction) (at : Place) (symbols rest : List Symbol) (Behind : Draft → Type 0)
    → KnowColons symbols → may_share_line stage (Number (Some value)) ≡ true → step stage (Number (Some value)) ≡ Some next
    → Behind (noted stage seen.uncertainty (Number (Some value)) at draft) → NumberAt value at symbols rest → GoesOn seen stage draft symbols next Behind rest
number_goes seen stage next draft value at [] rest Behind colons shares steps behind p = absurd p
number_goes seen stage next draft value at (symbol ∷ symbols) rest Behind colons shares steps behind p = (
  noted stage seen.uncertainty (Number (Some value)) symbol.place draft,
  subst (λ place. Behind (noted stage seen.uncertainty (Number (Some value)) place draft)) (sym p.1) behind,
  subst KnowColons p.2 colons.1,
  to_rest seen stage next draft (noted stage seen.uncertainty (Number (Some value)) symbol.place draft) (symbol ∷ symbols) symbols rest p.2
      (reads_within stage next seen draft symbol symbols (Number (Some value)) p.0 shares steps (number_stays value)),
)

-- a name at its place, with this flag
abbrev pub FlaggedName : ℕ → Place → Bool → List Symbol → List Symbol → Type 0
FlaggedName n at labels [] rest = ⊥
FlaggedName n at labels (symbol ∷ symbols) rest = (symbol.word ≡ Name n labels) × (symbol.place ≡ at) × (symbols ≡ rest)

pub flagged : (n : ℕ) (at : Place) (symbols rest : List Symbol) → NameAt n at symbols rest → (labels : Bool) × FlaggedName n at labels symbols rest
flagged n at [] rest p = absurd p
flagged n at (symbol ∷ symbols) rest p = (p.0.0, (p.0.1, p.1, p.2))

-- a colon follows
pub flagged_label : (n : ℕ) (at : Place) (symbols rest : List Symbol) → KnowColons symbols → is_colon_next rest → NameAt n at symbols rest → FlaggedName n at true symbols rest
flagged_label n at [] rest colons next p = absurd p
flagged_label n at (symbol ∷ symbols) rest colons next p =
    elim (colons.0 n p.0.0 p.0.1) [
      | inl has ↦ (subst (λ b. symbol.word ≡ Name n b) has.0 p.0.1, p.1, p.2)
      | inr lacks ↦ absurd (lacks.1 (subst is_colon_next (sym p.2) next))
    ]

-- no colon follows
pub flagged_plain : (n : ℕ) (at : Place) (symbols rest : List Symbol) → KnowColons symbols → ¬ is_colon_next rest → NameAt n at symbols rest → FlaggedName n at false symbols rest
flagged_plain n at [] rest colons next p = absurd p
flagged_plain n at (symbol ∷ symbols) rest colons next p =
    elim (colons.0 n p.0.0 p.0.1) [
      | inl has ↦ absurd (next (subst is_colon_next p.2 has.1))
      | inr lacks ↦ (subst (λ b. symbol.word ≡ Name n b) lacks.0 p.0.1, p.1, p.2)
    ]

-- a name that fits the line, by its flag
pub flagged_fits : (seen : Seen) (stage next : Stage) (draft : Draft) (n : ℕ) (at : Place) (labels : Bool) (symbols rest : List Symbol) (Behind : Draft → Type 0)
    → KnowColons symbols → FirstFits stage symbols → step stage (Name n labels) ≡ Some next
    → Behind (noted stage seen.uncertainty (Name n labels) at draft) → FlaggedName n at labels symbols rest → GoesOn seen stage draft symbols next Behind rest
flagged_fits seen stage next draft n at labels [] rest Behind colons fits steps behind p = absurd p
flagged_fits seen stage next draft n at labels (symbol ∷ symbols) rest Behind colons fits steps behind p = (
  noted stage seen.uncertainty (Name n labels) symbol.place draft,
  subst (λ place. Behind (noted stage seen.uncertainty (Name n labels) place draft)) (sym p.1) behind,
  subst KnowColons p.2 colons.1,
  to_rest seen stage next draft (noted stage seen.uncertainty (Name n labels) symbol.place draft) (symbol ∷ symbols) symbols rest p.2
      (reads_word stage next seen draft symbol symbols (Name n labels) p.0 fits steps (name_stays n labels)),
)

-- a name that fits the line
pub name_fits : (seen : Seen) (stage next : Stage) (draft : Draft) (n : ℕ) (at : Place) (symbols rest : List Symbol) (Behind : Draft → Type 0)
    → KnowColons symbols → FirstFits stage symbols → ((labels : Bool) → step stage (Name n labels) ≡ Some next)
    → ((labels : Bool) → Behind (noted stage seen.uncertainty (Name n labels) at draft)) → NameAt n at symbols rest → GoesOn seen stage draft symbols next Behind rest
name_fits seen stage next draft n at symbols rest Behind colons fits steps behind p =
    let named = flagged n at symbols rest p in
    flagged_fits seen stage next draft n at named.0 symbols rest Behind colons fits (steps named.0) (behind named.0) named.1

name_shared : (stage : Stage) (n : ℕ) (at : Place) (symbols rest : List Symbol) → ((labels : Bool) → may_share_line stage (Name n labels) ≡ true) → NameAt n at symbols rest → FirstFits stage symbols
name_shared stage n at [] rest shares p = absurd p
name_shared stage n at (symbol ∷ symbols) rest shares p = fits_shared stage symbol (ap (may_share_line stage) p.0.1 ∙ shares p.0.0)

-- a name, where any may share the line
pub name_goes : (seen : Seen) (stage next : Stage) (draft : Draft) (n : ℕ) (at : Place) (symbols rest : List Symbol) (Behind : Draft → Type 0)
    → KnowColons symbols → ((labels : Bool) → may_share_line stage (Name n labels) ≡ true) → ((labels : Bool) → step stage (Name n labels) ≡ Some next)
    → ((labels : Bool) → Behind (noted stage seen.uncertainty (Name n labels) at draft)) → NameAt n at symbols rest → GoesOn seen stage draft symbols next Behind rest
name_goes seen stage next draft n at symbols rest Behind colons shares steps behind p =
    name_fits seen stage next draft n at symbols rest Behind colons (name_shared stage n at symbols rest shares p) steps behind p

-- where this word stands first no colon does
pub says_no_colon : (word : Word) (symbols rest : List Symbol) → word ≢ Colon → Says word symbols rest → ¬ is_colon_next symbols
says_no_colon word [] rest apart p next = absurd next
says_no_colon word (symbol ∷ symbols) rest apart p next = apart (sym p.0 ∙ next)

pub says_colon : (symbols rest : List Symbol) → Says Colon symbols rest → is_colon_next symbols
says_colon [] rest p = absurd p
says_colon (symbol ∷ symbols) rest p = p.0
