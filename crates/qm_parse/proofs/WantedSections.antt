-- What is expected where a section may begin.
use Rattle.std.proofs.Common.{Bool, false, true, List, [], ◌∷◌, Some, None, inl, inr, refl, if◌then◌else◌}
use Rattle.qm_lex.specs.declared.place.Place.{Place}
use Rattle.qm_lex.specs.declared.token.Keyword.TheVariants as keyword
use Rattle.qm_parse.specs.declared.fault.What.{What}
use Rattle.qm_parse.specs.declared.stage.NameList.{NameList}
use Rattle.qm_parse.specs.declared.stage.NameList.TheVariants.{Generals, Binaries, Exists, All, Order}
use Rattle.qm_parse.specs.declared.stage.Section.TheVariants as section
use Rattle.qm_parse.specs.declared.stage.Seen.{Seen}
use Rattle.qm_parse.specs.declared.stage.Stage.TheVariants as stage
use Rattle.qm_parse.specs.declared.stage.State.{State}
use Rattle.qm_parse.specs.declared.word.Symbol.{Symbol}
use Rattle.qm_parse.specs.declared.word.Word.{Word}
use Rattle.qm_parse.specs.declared.word.Word.TheVariants.{Name, Keyword as Reserved}
use Rattle.qm_parse.specs.Parts.{ListHeading}
use Rattle.qm_parse.specs.Stages.{begun, begun_by, followed, has, may_end, moved, section_of, stage_of, step, with_section}
use Rattle.qm_parse.specs.Texts.Written.{Uncertain, Bounded, Listed}
use Rattle.qm_parse.proofs.WrittenSteps.{state, symbol}
use Rattle.qm_parse.proofs.WantedFronts.{BoundsFront, Front, FrontOf, HeadingFront, NamesFront, SectionsFront}

then_front : (b : Bool) (next : State) (e : What) (symbols rest : List Symbol) → FrontOf (if b then Some next else None) e symbols rest → Front next.stage e symbols rest
then_front true next e symbols rest p = p
then_front false next e symbols rest p = absurd p

else_front : (b : Bool) (next : State) (e : What) (symbols rest : List Symbol) → FrontOf (if b then None else Some next) e symbols rest → Front next.stage e symbols rest
else_front true next e symbols rest p = absurd p
else_front false next e symbols rest p = p

uncertain_front : (e : What) (at : Place) (line : Bool) (symbols rest : List Symbol) → HeadingFront e symbols rest → SectionsFront e (symbol (Reserved keyword.Uncertainty) at line ∷ symbols) rest
uncertain_front e at line symbols rest (inl heading) =
    (symbol (Reserved keyword.Uncertainty) at line ∷ symbols, ([], refl), inl (symbols, (refl, refl), inl heading))
uncertain_front e at line symbols rest (inr (b, heading, (c, rows, inl row))) =
    (symbol (Reserved keyword.Uncertainty) at line ∷ symbols, ([], refl), inl (symbols, (refl, refl), inr (b, heading, (c, rows, row))))
uncertain_front e at line symbols rest (inr (b, heading, (c, (rows, written), inr (d, (sections, others), wants)))) =
    (d, (Uncertain rows ∷ sections, (c, (symbols, (refl, refl), (b, heading, written)), others)), wants)

bounded_front : (e : What) (at : Place) (line : Bool) (symbols rest : List Symbol) → BoundsFront e symbols rest → SectionsFront e (symbol (Reserved keyword.Bounds) at line ∷ symbols) rest
bounded_front e at line symbols rest (b, bounds, inl bound) =
    (symbol (Reserved keyword.Bounds) at line ∷ symbols, ([], refl), inr (inl (symbols, (refl, refl), (b, bounds, bound))))
bounded_front e at line symbols rest (b, (bounds, written), inr (d, (sections, others), wants)) =
    (d, (Bounded bounds ∷ sections, (b, (symbols, (refl, refl), written), others)), wants)

listed_front : (e : What) (list : NameList) (first : Symbol) (symbols rest : List Symbol) → ListHeading list (first ∷ symbols) symbols → NamesFront e symbols rest → SectionsFront e (first ∷ symbols) rest
listed_front e list first symbols rest heading (b, names, inl next) =
    (first ∷ symbols, ([], refl), inr (inr (inl (symbols, (list, heading), (b, names, next)))))
listed_front e list first symbols rest heading (b, (names, written), inr (d, (sections, others), wants)) =
    (d, (Listed list names ∷ sections, (b, (symbols, heading, written), others)), wants)

abbrev listing : Seen → NameList → State
listing seen list = state (stage.Names list) (with_section seen (section.Names list))

names_begun : (seen : Seen) (list : NameList) (e : What) (symbols rest : List Symbol) → FrontOf (begun seen (section.Names list)) e symbols rest → NamesFront e symbols rest
unfolding begun stage_of
names_begun seen list e symbols rest p = else_front (has seen (section.Names list)) (listing seen list) e symbols rest p

-- the keyword of a section, or END
pub followed_front : (word : Word) (at : Place) (line : Bool) (seen : Seen) (e : What) (symbols rest : List Symbol) → FrontOf (followed seen word) e symbols rest → SectionsFront e (symbol word at line ∷ symbols) rest
unfolding followed section_of begun_by begun stage_of
followed_front (Reserved keyword.End) at line seen e symbols rest p =
    let ended = then_front seen.order (state stage.Ended seen) e symbols rest p in
    (symbol (Reserved keyword.End) at line ∷ symbols, ([], refl), inr (inr (inr (symbols, (refl, refl), ended))))
followed_front (Reserved keyword.Uncertainty) at line seen e symbols rest p =
    uncertain_front e at line symbols rest (else_front (has seen section.Uncertainty) (state stage.UncertaintyHeading (with_section seen section.Uncertainty)) e symbols rest p)
followed_front (Reserved keyword.Bounds) at line seen e symbols rest p =
    bounded_front e at line symbols rest (else_front (has seen section.Bounds) (state stage.BoundsBegin (with_section seen section.Bounds)) e symbols rest p)
followed_front (Reserved keyword.Generals) at line seen e symbols rest p =
    listed_front e Generals (symbol (Reserved keyword.Generals) at line) symbols rest (inl (refl, refl)) (names_begun seen Generals e symbols rest p)
followed_front (Reserved keyword.General) at line seen e symbols rest p =
    listed_front e Generals (symbol (Reserved keyword.General) at line) symbols rest (inr (refl, refl)) (names_begun seen Generals e symbols rest p)
followed_front (Reserved keyword.Binaries) at line seen e symbols rest p =
    listed_front e Binaries (symbol (Reserved keyword.Binaries) at line) symbols rest (inl (refl, refl)) (names_begun seen Binaries e symbols rest p)
followed_front (Reserved keyword.Binary) at line seen e symbols rest p =
    listed_front e Binaries (symbol (Reserved keyword.Binary) at line) symbols rest (inr (refl, refl)) (names_begun seen Binaries e symbols rest p)
followed_front (Reserved keyword.Exists) at line seen e symbols rest p =
    listed_front e Exists (symbol (Reserved keyword.Exists) at line) symbols rest (refl, refl) (names_begun seen Exists e symbols rest p)
followed_front (Reserved keyword.All) at line seen e symbols rest p =
    listed_front e All (symbol (Reserved keyword.All) at line) symbols rest (refl, refl) (names_begun seen All e symbols rest p)
followed_front (Reserved keyword.Order) at line seen e symbols rest p =
    listed_front e Order (symbol (Reserved keyword.Order) at line) symbols rest (refl, refl) (names_begun seen Order e symbols rest p)
followed_front word at line seen e symbols rest p = absurd p

-- a name of a list, or what follows it
pub names : (list : NameList) (word : Word) (at : Place) (line : Bool) (seen : Seen) (e : What) (symbols rest : List Symbol)
    → FrontOf (moved (state (stage.Names list) seen) word (step (stage.Names list) word)) e symbols rest → NamesFront e (symbol word at line ∷ symbols) rest
unfolding moved step may_end
names list (Name n labels) at line seen e symbols rest p =
    (p.0, (record { name = n; at = at } ∷ p.1.0, (symbols, ((labels, refl), refl, refl), p.1.1)), p.2)
names list word at line seen e symbols rest p = (symbol word at line ∷ symbols, ([], refl), inr (followed_front word at line seen e symbols rest p))

pub ended : (word : Word) (at : Place) (line : Bool) (seen : Seen) (e : What) (symbols rest : List Symbol)
    → FrontOf (moved (state stage.Ended seen) word (step stage.Ended word)) e symbols rest → ⊥
unfolding moved step may_end
ended (Reserved k) at line seen e symbols rest p = p
ended word at line seen e symbols rest p = p
