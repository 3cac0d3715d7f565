-- What is told at the first fault is what the unfinished part wants.
use Rattle.std.proofs.Common.{◌≡◌, ◌||◌, Bool, false, true, List, [], ◌∷◌, ◌++◌, Some, Ok, inl, inr, sym, ap, subst, ◌∙◌, append_assoc, append-nil}
use Rattle.std.proofs.lemmas.Bool.{cases_Bool}
use Rattle.qm_lex.specs.declared.place.Place.{Place}
use Rattle.qm_parse.specs.declared.draft.Draft.{Draft}
use Rattle.qm_parse.specs.declared.fault.What.{What}
use Rattle.qm_parse.specs.declared.stage.Seen.{Seen}
use Rattle.qm_parse.specs.declared.stage.Stage.{Stage}
use Rattle.qm_parse.specs.declared.stage.Stage.TheVariants as stage
use Rattle.qm_parse.specs.declared.stage.State.{State}
use Rattle.qm_parse.specs.declared.unread.Unread.TheVariants as unread
use Rattle.qm_parse.specs.declared.word.Symbol.{Symbol}
use Rattle.qm_parse.specs.declared.word.Word.{Word}
use Rattle.qm_parse.specs.Faults.{CanGoOn, IsFaultBehind, IsFirstFault, in_range, state_behind, unlabelled}
use Rattle.qm_parse.specs.Reading.{empty_draft, finished, leaves, read, start}
use Rattle.qm_parse.specs.Stages.{expected, fits_line, may_share_line, moved, next_state, step, wanted}
use Rattle.qm_parse.specs.Texts.{KnowColons, KnowsColon}
use Rattle.qm_parse.specs.Wants.{Wants}
use Rattle.qm_parse.proofs.Beginnings.{AreInRange, front_moves, front_read, in_range-append, next_cases, next_in_range, state_is}
use Rattle.qm_parse.proofs.FirstFaults.{behind_last, goes_on, leaving_number, no_label-leaves, number_stays, number_word, range_colons}
use Rattle.qm_parse.proofs.OneFault.{stays-range, text_in_range}
use Rattle.qm_parse.proofs.WrittenSteps.{if_some, state}
use Rattle.qm_parse.proofs.WrittenTexts.{text_read}
use Rattle.qm_parse.proofs.WantedFronts.{Front, FrontOf}
use Rattle.qm_parse.proofs.WantedStops.{Stops, stop_front}
use Rattle.qm_parse.proofs.WantedObjectives as objective
use Rattle.qm_parse.proofs.WantedRows as row
use Rattle.qm_parse.proofs.WantedBounds as bound
use Rattle.qm_parse.proofs.WantedSections as section

-- ---- one symbol earlier

step_front : (s : Stage) (word : Word) (at : Place) (line : Bool) (seen : Seen) (e : What) (symbols rest : List Symbol) → leaves word ≡ false → KnowsColon (record { word = word; place = at; begins_line = line }) symbols
    → (line || may_share_line s word) ≡ true → FrontOf (moved (state s seen) word (step s word)) e symbols rest
    → Front s e (record { word = word; place = at; begins_line = line } ∷ symbols) rest
step_front stage.Start word at line seen e symbols rest stays knows fits p = objective.sense word at line seen e symbols rest p
step_front stage.ObjectiveFirst word at line seen e symbols rest stays knows fits p = objective.first word at line seen e symbols rest stays knows p
step_front stage.ObjectiveLabel word at line seen e symbols rest stays knows fits p = objective.colon word at line seen e symbols rest p
step_front stage.ObjectiveBegin word at line seen e symbols rest stays knows fits p = objective.begun word at line seen e symbols rest stays p
step_front stage.ObjectiveSigned word at line seen e symbols rest stays knows fits p = objective.behind_signs word at line seen e symbols rest stays p
step_front stage.ObjectiveNumber word at line seen e symbols rest stays knows fits p = objective.behind_number word at line seen e symbols rest p
step_front stage.ObjectiveTerm word at line seen e symbols rest stays knows fits p = objective.behind_term word at line seen e symbols rest p
step_front stage.SubjectHeading word at line seen e symbols rest stays knows fits p = objective.subject word at line seen e symbols rest p
step_front stage.UncertaintyHeading word at line seen e symbols rest stays knows fits p = objective.uncertainty word at line seen e symbols rest p
step_front stage.RowsBegin word at line seen e symbols rest stays knows fits p = row.begun word at line seen e symbols rest stays knows p
step_front stage.RowLabel word at line seen e symbols rest stays knows fits p = row.colon word at line seen e symbols rest p
step_front stage.RowSigned word at line seen e symbols rest stays knows fits p = row.behind_signs word at line seen e symbols rest stays p
step_front stage.RowNumber word at line seen e symbols rest stays knows fits p = row.behind_number word at line seen e symbols rest p
step_front stage.RowTerm word at line seen e symbols rest stays knows fits p = row.behind_term word at line seen e symbols rest p
step_front stage.RowRelation word at line seen e symbols rest stays knows fits p = row.right word at line seen e symbols rest stays p
step_front stage.RowEnd word at line seen e symbols rest stays knows fits p = row.behind_row word at line seen e symbols rest stays knows fits p
step_front stage.BoundsBegin word at line seen e symbols rest stays knows fits p = bound.begun word at line seen e symbols rest stays p
step_front stage.BoundSigned word at line seen e symbols rest stays knows fits p = bound.behind_signs word at line seen e symbols rest stays p
step_front stage.BoundValue word at line seen e symbols rest stays knows fits p = bound.behind_value word at line seen e symbols rest p
step_front stage.BoundTurned word at line seen e symbols rest stays knows fits p = bound.behind_turned word at line seen e symbols rest p
step_front stage.BoundNamed word at line seen e symbols rest stays knows fits p = bound.behind_named word at line seen e symbols rest stays fits p
step_front stage.BoundName word at line seen e symbols rest stays knows fits p = bound.behind_name word at line seen e symbols rest p
step_front stage.BoundRelation word at line seen e symbols rest stays knows fits p = bound.related word at line seen e symbols rest stays p
step_front stage.BoundEnd word at line seen e symbols rest stays knows fits p = bound.behind_bound word at line seen e symbols rest stays fits p
step_front (stage.Names list) word at line seen e symbols rest stays knows fits p = section.names list word at line seen e symbols rest p
step_front stage.Ended word at line seen e symbols rest stays knows fits p = absurd (section.ended word at line seen e symbols rest p)

-- ---- from the first symbol on

accepted : (s : Stage) (seen : Seen) (symbol : Symbol) (next : State) → next_state (state s seen) symbol ≡ Some next
    → ((symbol.begins_line || may_share_line s symbol.word) ≡ true) × (moved (state s seen) symbol.word (step s symbol.word) ≡ Some next)
unfolding next_state fits_line
accepted s seen symbol next e = if_some (symbol.begins_line || may_share_line s symbol.word) (moved (state s seen) symbol.word (step s symbol.word)) next e

front_wants : (front rest : List Symbol) (s : Stage) (seen : Seen) (last : State) (e : What) → state_behind (state s seen) front ≡ Some last → AreInRange front → KnowColons (front ++ rest)
    → Stops last.stage last.seen rest e → Front s e (front ++ rest) rest
front_wants [] rest s seen last e reached ranges colons stops =
    subst (λ (at : State). Front at.stage e rest rest) (sym (state_is (state s seen) last reached)) (stop_front last.stage last.seen rest e colons stops)
front_wants (symbol ∷ front) rest s seen last e reached ranges colons stops =
    let moves = front_moves (state s seen) last symbol front reached in
    let taken = accepted s seen symbol moves.0 moves.1 in
    let behind = front_wants front rest moves.0.stage moves.0.seen last e moves.2 ranges.1 colons.1 stops in
    step_front s symbol.word symbol.place symbol.begins_line seen e (front ++ rest) rest ranges.0 colons.0 taken.0
    (subst (λ o. FrontOf o e (front ++ rest) rest) (sym taken.1) behind)

-- ---- at the first fault

range_front : (front more : List Symbol) → AreInRange (front ++ more) → AreInRange front
range_front [] more p = tt
range_front (symbol ∷ front) more p = (p.0, range_front front more p.1)

range_unlabelled : (front : List Symbol) → AreInRange (unlabelled front) → AreInRange front
range_unlabelled [] p = tt
range_unlabelled (symbol ∷ []) p = (sym (no_label-leaves symbol.word) ∙ p.0, tt)
range_unlabelled (symbol ∷ next ∷ front) p = (p.0, range_unlabelled (next ∷ front) p.1)

beginning_ranges : (front : List Symbol) → CanGoOn front → AreInRange front
beginning_ranges front further =
    let ranges = range_front further.written further.more (text_in_range further.names (further.written ++ further.more) further.ast further.colons further.text) in
    elim further.same [
      | inl same ↦ subst AreInRange same ranges
      | inr same ↦ range_unlabelled front (subst AreInRange same ranges)
    ]

-- a symbol that may follow a beginning makes a longer one
follows : (state next : State) (front rest : List Symbol) (symbol : Symbol) → state_behind start front ≡ Some state → AreInRange front → KnowColons (front ++ symbol ∷ rest) → next_state state symbol ≡ Some next
    → CanGoOn (front ++ in_range symbol ∷ [])
follows state next front rest symbol reached ranges colons moves =
    let known =
    elim (cases_Bool (leaves symbol.word)) as (λ _. (leaves (in_range symbol).word ≡ false) × KnowColons (front ++ in_range symbol ∷ rest)) [
      | inl leaving ↦
          let is = leaving_number symbol.word leaving in
          (number_stays (in_range symbol) (number_word symbol is), (range_colons front rest symbol is colons).0)
      | inr stays ↦
          let same : in_range symbol ≡ symbol = ap (λ w. record symbol { word = w }) (stays-range symbol.word stays) in
          (ap (λ (s : Symbol). leaves s.word) same ∙ stays, subst (λ (s : Symbol). KnowColons (front ++ s ∷ rest)) (sym same) colons)
    ] in
    goes_on (λ names symbols ast end colons is. text_read names symbols end ast is) next (front ++ in_range symbol ∷ []) rest
    (behind_last state next front (in_range symbol) reached (next_in_range state symbol ∙ moves))
    (in_range-append front (in_range symbol ∷ []) ranges (known.0, tt))
    (subst KnowColons (sym (append_assoc front (in_range symbol ∷ []) rest)) known.1)

-- what ends with END is a text
ended_text : (state : State) (front : List Symbol) (end : Place) → state_behind start front ≡ Some state → AreInRange front → state.stage ≡ stage.Ended
    → (draft : Draft) × (read start (empty_draft []) front end ≡ Ok draft.ast)
unfolding finished read
ended_text state front end reached ranges is =
    let over = front_read start state (empty_draft []) front reached ranges in
    (over.0, ap (λ xs. read start (empty_draft []) xs end) (sym (append-nil front)) ∙ over.1 [] end ∙ ap (λ s. finished s over.0 end) is)

expected_is : (one other : Place) (what wants : What) → unread.Expected one what ≡ unread.Expected other wants → what ≡ wants
expected_is one other what wants e = cc

fault_stops : (front : List Symbol) (state : State) (rest : List Symbol) (end at : Place) (what : What) → state_behind start front ≡ Some state → AreInRange front → KnowColons (front ++ rest)
    → IsFaultBehind front state rest end (unread.Expected at what) → Stops state.stage state.seen rest what
fault_stops front state [] end at what reached ranges colons stops = (
  λ is.
      let read_over = ended_text state front end reached ranges is in
      stops.1 [] read_over.0.ast (text_read [] front end read_over.0.ast read_over.1),
  expected_is at end what (wanted state.stage) stops.0,
)
fault_stops front state (symbol ∷ rest) end at what reached ranges colons (inl number) = absurd (let apart = number.0 in cc)
fault_stops front state (symbol ∷ rest) end at what reached ranges colons (inr stops) = (
  elim (next_cases state symbol) [
    | inl none ↦ none
    | inr some ↦ absurd (stops.1 (follows state some.0 front rest symbol reached ranges colons some.1))
  ],
  expected_is at symbol.place what (expected state.stage symbol) stops.0,
)

pub wanted_at_fault : (symbols : List Symbol) (end at : Place) (what : What) → KnowColons symbols → (fault : IsFirstFault symbols end (unread.Expected at what)) → Wants what symbols fault.behind
unfolding start
wanted_at_fault symbols end at what colons fault =
    let ranges = beginning_ranges fault.front fault.goes_on in
    let known = subst KnowColons fault.parts colons in
    let stops = fault_stops fault.front fault.state fault.behind end at what fault.reached ranges known fault.stops in
    subst (λ xs. Wants what xs fault.behind) (sym fault.parts)
    (front_wants fault.front fault.behind stage.Start start.seen fault.state what fault.reached ranges known stops)
