-- What is expected within the objective.
use Rattle.std.proofs.Common.{◌≡◌, ℕ, Bool, false, true, List, [], ◌∷◌, Some, None, inl, inr, refl, sym, subst}
use Rattle.qm_math.specs.Fraction.{Fraction}
use Rattle.qm_lex.specs.declared.place.Place.{Place}
use Rattle.qm_lex.specs.declared.token.Keyword.TheVariants as keyword
use Rattle.qm_parse.specs.declared.fault.What.{What}
use Rattle.qm_parse.specs.declared.stage.Stage.TheVariants as stage
use Rattle.qm_model.specs.declared.game.Sense.TheVariants.{Max, Min}
use Rattle.qm_parse.specs.declared.stage.Seen.{Seen}
use Rattle.qm_parse.specs.declared.word.Symbol.{Symbol}
use Rattle.qm_parse.specs.declared.word.Word.{Word}
use Rattle.qm_parse.specs.declared.word.Word.TheVariants.{Name, Number, Sign, Colon, Keyword as Reserved}
use Rattle.qm_parse.specs.Drafts.{one, signed_by}
use Rattle.qm_parse.specs.Parts.{◌then◌, Each, Multiple, OptionalLabel, Says, SignOf, is_odd}
use Rattle.qm_parse.specs.Reading.{leaves}
use Rattle.qm_parse.specs.Stages.{moved, step, objective_begun, may_end}
use Rattle.qm_parse.specs.Texts.{KnowsColon, is_colon_next}
use Rattle.qm_parse.specs.Wants.{AnyName, HeadingWants, ObjectiveWants, Signs, Wants}
use Rattle.qm_parse.proofs.WrittenSteps.{state, symbol}
use Rattle.qm_parse.proofs.WantedFronts.{Body, Front, FrontOf, HeadingFront, ObjectiveBegun, ObjectiveBody, ObjectiveFront, ObjectiveMore, ObjectiveNumbered, ObjectiveSigned, RowsFront, SubjectFront}

-- a sign, and what is left of others
pub signs_more : (minus : Bool) (symbols between middle rest : List Symbol) (signs : List Bool) → Says (Sign minus) symbols between → Each SignOf signs between middle → middle ≡ rest → Signs symbols rest
signs_more minus symbols between middle rest signs first others same = (between, (minus, first), (signs, subst (λ xs. Each SignOf signs between xs) same others))

-- further signs before a term
signed_more : (e : What) (minus : Bool) (symbols between rest : List Symbol) → Says (Sign minus) symbols between → ObjectiveSigned e between rest → ObjectiveMore e symbols rest
signed_more e minus symbols between rest first (b, (signs, each), inl (is, nothing)) =
    (symbols, ([], refl), inl (is, signs_more minus symbols between b rest signs first each nothing))
signed_more e minus symbols between rest first (b, (signs, each), inr (c, body, (d, (terms, others), tail))) =
    let term = body (is_odd (minus ∷ signs)) in
    (d, (term.0 ∷ terms, (c, (minus ∷ signs, inr (λ none. cc), (b, (between, first, each), term.1)), others)), tail)

signed_signed : (e : What) (minus : Bool) (symbols between rest : List Symbol) → Says (Sign minus) symbols between → ObjectiveSigned e between rest → ObjectiveSigned e symbols rest
signed_signed e minus symbols between rest first (b, (signs, each), tail) = (b, (minus ∷ signs, (between, first, each)), tail)

signed_begun : (e : What) (minus : Bool) (symbols between rest : List Symbol) → Says (Sign minus) symbols between → ObjectiveSigned e between rest → ObjectiveBegun e symbols rest
signed_begun e minus symbols between rest first (b, (signs, each), inl (is, nothing)) =
    (symbols, ([], refl), inl (is, signs_more minus symbols between b rest signs first each nothing))
signed_begun e minus symbols between rest first (b, (signs, each), inr (c, body, (d, (terms, others), tail))) =
    let term = body (is_odd (minus ∷ signs)) in
    (d, (term.0 ∷ terms, (c, (minus ∷ signs, inl refl, (b, (between, first, each), term.1)), others)), tail)

-- a first term without a sign
body_begun : (e : What) (symbols rest : List Symbol) → (Body ObjectiveBody then ObjectiveMore e) symbols rest → ObjectiveBegun e symbols rest
body_begun e symbols rest (c, body, (d, (terms, others), tail)) =
    let term = body false in
    (d, (term.0 ∷ terms, (c, ([], inl refl, (symbols, refl, term.1)), others)), tail)

-- a name without a number
pub name_body : (n : ℕ) (labels : Bool) (at : Place) (line : Bool) (symbols : List Symbol) → Body Multiple (symbol (Name n labels) at line ∷ symbols) symbols
name_body n labels at line symbols negative =
    (record { coef = signed_by negative one; name = Some n; at = at }, (one, n, refl, refl, (symbol (Name n labels) at line ∷ symbols, inr (refl, refl), ((labels, refl), refl, refl))))

-- a name behind a number
pub number_body : (value : Fraction) (at : Place) (line : Bool) (symbols rest : List Symbol) → AnyName symbols rest → Body Multiple (symbol (Number (Some value)) at line ∷ symbols) rest
number_body value at line symbols rest (n, place, name) negative =
    (record { coef = signed_by negative value; name = Some n; at = place }, (value, n, refl, refl, (symbols, inl (refl, refl), name)))

constant_body : (value : Fraction) (at : Place) (line : Bool) (symbols : List Symbol) → Body ObjectiveBody (symbol (Number (Some value)) at line ∷ symbols) symbols
constant_body value at line symbols negative =
    (record { coef = signed_by negative value; name = None; at = at }, inr (value, refl, refl, (refl, refl, refl)))

numbered_body : (e : What) (value : Fraction) (at : Place) (line : Bool) (symbols rest : List Symbol) → ObjectiveNumbered e symbols rest
    → (Body ObjectiveBody then ObjectiveMore e) (symbol (Number (Some value)) at line ∷ symbols) rest
numbered_body e value at line symbols rest (inl more) = (symbols, constant_body value at line symbols, more)
numbered_body e value at line symbols rest (inr (b, name, more)) =
    (b, (λ negative. let multiple = number_body value at line symbols b name negative in (multiple.0, inl multiple.1)), more)

named_body : (e : What) (n : ℕ) (labels : Bool) (at : Place) (line : Bool) (symbols rest : List Symbol) → ObjectiveMore e symbols rest
    → (Body ObjectiveBody then ObjectiveMore e) (symbol (Name n labels) at line ∷ symbols) rest
named_body e n labels at line symbols rest more =
    (symbols, (λ negative. let multiple = name_body n labels at line symbols negative in (multiple.0, inl multiple.1)), more)

-- ---- the heading behind it

-- SUBJECT
pub subject_heading : (e : What) (at : Place) (line : Bool) (symbols rest : List Symbol) → SubjectFront e symbols rest → HeadingFront e (symbol (Reserved keyword.Subject) at line ∷ symbols) rest
subject_heading e at line symbols rest (inl (is, nothing)) =
    inl (subst (λ w. HeadingWants w (symbol (Reserved keyword.Subject) at line ∷ symbols) rest) (sym is) (refl, nothing))
subject_heading e at line symbols rest (inr (b, to, rows)) = inr (b, inl (symbols, (refl, refl), to), rows)

-- ST
pub st_heading : (e : What) (at : Place) (line : Bool) (symbols rest : List Symbol) → RowsFront e symbols rest → HeadingFront e (symbol (Reserved keyword.St) at line ∷ symbols) rest
st_heading e at line symbols rest rows = inr (symbols, inr (refl, refl), rows)

-- ---- step by step

heading_begun : (e : What) (symbols rest : List Symbol) → HeadingFront e symbols rest → ObjectiveBegun e symbols rest
heading_begun e symbols rest heading = (symbols, ([], refl), inr heading)

heading_more : (e : What) (symbols rest : List Symbol) → HeadingFront e symbols rest → ObjectiveMore e symbols rest
heading_more e symbols rest heading = (symbols, ([], refl), inr heading)

-- the objective, with a label or without
pub labelled : (e : What) (symbols between rest : List Symbol) → OptionalLabel symbols between → ObjectiveBegun e between rest → ObjectiveFront e symbols rest
labelled e symbols between rest label (b, terms, inl (is, signs)) =
    inl (subst (λ w. ObjectiveWants w symbols rest) (sym is) (between, label, (b, terms, signs)))
labelled e symbols between rest label (b, (terms, written), inr heading) = inr (b, (terms, (between, label, written)), heading)

-- the first term, or the heading
pub begun : (word : Word) (at : Place) (line : Bool) (seen : Seen) (e : What) (symbols rest : List Symbol) → leaves word ≡ false
    → FrontOf (moved (state stage.ObjectiveBegin seen) word (step stage.ObjectiveBegin word)) e symbols rest → ObjectiveBegun e (symbol word at line ∷ symbols) rest
unfolding moved step objective_begun may_end leaves
begun (Sign minus) at line seen e symbols rest stays p = signed_begun e minus (symbol (Sign minus) at line ∷ symbols) symbols rest (refl, refl) p
begun (Number (Some value)) at line seen e symbols rest stays p = body_begun e (symbol (Number (Some value)) at line ∷ symbols) rest (numbered_body e value at line symbols rest p)
begun (Number None) at line seen e symbols rest stays p = absurd cc
begun (Name n labels) at line seen e symbols rest stays p = body_begun e (symbol (Name n labels) at line ∷ symbols) rest (named_body e n labels at line symbols rest p)
begun (Reserved keyword.Subject) at line seen e symbols rest stays p = heading_begun e (symbol (Reserved keyword.Subject) at line ∷ symbols) rest (subject_heading e at line symbols rest p)
begun (Reserved keyword.St) at line seen e symbols rest stays p = heading_begun e (symbol (Reserved keyword.St) at line ∷ symbols) rest (st_heading e at line symbols rest p)
begun word at line seen e symbols rest stays p = absurd p

unlabelled_step : (seen : Seen) (e : What) (word : Word) (symbols rest : List Symbol) → ((n : ℕ) → ¬ (word ≡ Name n true))
    → FrontOf (moved (state stage.ObjectiveFirst seen) word (step stage.ObjectiveFirst word)) e symbols rest
    → FrontOf (moved (state stage.ObjectiveBegin seen) word (step stage.ObjectiveBegin word)) e symbols rest
unfolding moved step may_end
unlabelled_step seen e (Name n true) symbols rest other p = absurd (other n refl)
unlabelled_step seen e word symbols rest other p = p

-- behind a label there is its colon
pub label_next : (n : ℕ) (at : Place) (line : Bool) (symbols : List Symbol) → KnowsColon (symbol (Name n true) at line) symbols → is_colon_next symbols
label_next n at line symbols knows =
    elim (knows n true refl) [
      | inl next ↦ next.1
      | inr other ↦ absurd (let apart = other.0 in cc)
    ]

-- behind the sense
pub first : (word : Word) (at : Place) (line : Bool) (seen : Seen) (e : What) (symbols rest : List Symbol) → leaves word ≡ false → KnowsColon (symbol word at line) symbols
    → FrontOf (moved (state stage.ObjectiveFirst seen) word (step stage.ObjectiveFirst word)) e symbols rest → ObjectiveFront e (symbol word at line ∷ symbols) rest
unfolding moved step may_end objective_begun
first (Name n true) at line seen e symbols rest stays knows p =
    let colon = p (label_next n at line symbols knows) in
    labelled e (symbol (Name n true) at line ∷ symbols) colon.0 rest (inl (n, at, (symbols, ((true, refl), refl, refl), colon.1))) colon.2
first word at line seen e symbols rest stays knows p =
    labelled e (symbol word at line ∷ symbols) (symbol word at line ∷ symbols) rest (inr refl)
    (begun word at line seen e symbols rest stays (unlabelled_step seen e word symbols rest (λ n is. cc) p))

-- the sense
pub sense : (word : Word) (at : Place) (line : Bool) (seen : Seen) (e : What) (symbols rest : List Symbol)
    → FrontOf (moved (state stage.Start seen) word (step stage.Start word)) e symbols rest → Wants e (symbol word at line ∷ symbols) rest
unfolding moved step may_end
sense (Reserved keyword.Maximize) at line seen e symbols rest p = inr (symbols, (Max, inl (refl, refl)), p)
sense (Reserved keyword.Max) at line seen e symbols rest p = inr (symbols, (Max, inr (refl, refl)), p)
sense (Reserved keyword.Minimize) at line seen e symbols rest p = inr (symbols, (Min, inl (refl, refl)), p)
sense (Reserved keyword.Min) at line seen e symbols rest p = inr (symbols, (Min, inr (refl, refl)), p)
sense word at line seen e symbols rest p = absurd p

pub colon : (word : Word) (at : Place) (line : Bool) (seen : Seen) (e : What) (symbols rest : List Symbol)
    → FrontOf (moved (state stage.ObjectiveLabel seen) word (step stage.ObjectiveLabel word)) e symbols rest → Front stage.ObjectiveLabel e (symbol word at line ∷ symbols) rest
unfolding moved step may_end
colon Colon at line seen e symbols rest p = λ next. (symbols, (refl, refl), p)
colon word at line seen e symbols rest p = absurd p

-- behind signs
pub behind_signs : (word : Word) (at : Place) (line : Bool) (seen : Seen) (e : What) (symbols rest : List Symbol) → leaves word ≡ false
    → FrontOf (moved (state stage.ObjectiveSigned seen) word (step stage.ObjectiveSigned word)) e symbols rest → ObjectiveSigned e (symbol word at line ∷ symbols) rest
unfolding moved step may_end leaves
behind_signs (Sign minus) at line seen e symbols rest stays p = signed_signed e minus (symbol (Sign minus) at line ∷ symbols) symbols rest (refl, refl) p
behind_signs (Number (Some value)) at line seen e symbols rest stays p = (symbol (Number (Some value)) at line ∷ symbols, ([], refl), inr (numbered_body e value at line symbols rest p))
behind_signs (Number None) at line seen e symbols rest stays p = absurd cc
behind_signs (Name n labels) at line seen e symbols rest stays p = (symbol (Name n labels) at line ∷ symbols, ([], refl), inr (named_body e n labels at line symbols rest p))
behind_signs word at line seen e symbols rest stays p = absurd p

-- behind a term
pub behind_term : (word : Word) (at : Place) (line : Bool) (seen : Seen) (e : What) (symbols rest : List Symbol)
    → FrontOf (moved (state stage.ObjectiveTerm seen) word (step stage.ObjectiveTerm word)) e symbols rest → ObjectiveMore e (symbol word at line ∷ symbols) rest
unfolding moved step may_end
behind_term (Sign minus) at line seen e symbols rest p = signed_more e minus (symbol (Sign minus) at line ∷ symbols) symbols rest (refl, refl) p
behind_term (Reserved keyword.Subject) at line seen e symbols rest p = heading_more e (symbol (Reserved keyword.Subject) at line ∷ symbols) rest (subject_heading e at line symbols rest p)
behind_term (Reserved keyword.St) at line seen e symbols rest p = heading_more e (symbol (Reserved keyword.St) at line ∷ symbols) rest (st_heading e at line symbols rest p)
behind_term word at line seen e symbols rest p = absurd p

-- behind a number
pub behind_number : (word : Word) (at : Place) (line : Bool) (seen : Seen) (e : What) (symbols rest : List Symbol)
    → FrontOf (moved (state stage.ObjectiveNumber seen) word (step stage.ObjectiveNumber word)) e symbols rest → ObjectiveNumbered e (symbol word at line ∷ symbols) rest
unfolding moved step may_end
behind_number (Name n labels) at line seen e symbols rest p = inr (symbols, (n, at, ((labels, refl), refl, refl)), p)
behind_number (Sign minus) at line seen e symbols rest p = inl (signed_more e minus (symbol (Sign minus) at line ∷ symbols) symbols rest (refl, refl) p)
behind_number (Reserved keyword.Subject) at line seen e symbols rest p = inl (heading_more e (symbol (Reserved keyword.Subject) at line ∷ symbols) rest (subject_heading e at line symbols rest p))
behind_number (Reserved keyword.St) at line seen e symbols rest p = inl (heading_more e (symbol (Reserved keyword.St) at line ∷ symbols) rest (st_heading e at line symbols rest p))
behind_number word at line seen e symbols rest p = absurd p

pub subject : (word : Word) (at : Place) (line : Bool) (seen : Seen) (e : What) (symbols rest : List Symbol)
    → FrontOf (moved (state stage.SubjectHeading seen) word (step stage.SubjectHeading word)) e symbols rest → SubjectFront e (symbol word at line ∷ symbols) rest
unfolding moved step may_end
subject (Reserved keyword.To) at line seen e symbols rest p = inr (symbols, (refl, refl), p)
subject word at line seen e symbols rest p = absurd p

pub uncertainty : (word : Word) (at : Place) (line : Bool) (seen : Seen) (e : What) (symbols rest : List Symbol)
    → FrontOf (moved (state stage.UncertaintyHeading seen) word (step stage.UncertaintyHeading word)) e symbols rest → HeadingFront e (symbol word at line ∷ symbols) rest
unfolding moved step may_end
uncertainty (Reserved keyword.Subject) at line seen e symbols rest p = subject_heading e at line symbols rest p
uncertainty (Reserved keyword.St) at line seen e symbols rest p = st_heading e at line symbols rest p
uncertainty word at line seen e symbols rest p = absurd p
