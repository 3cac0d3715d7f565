-- What is expected where a stage is left.
use Rattle.std.proofs.Common.{◌≡◌, ◌||◌, Bool, false, true, List, [], ◌∷◌, Option, Some, None, inl, inr, refl, sym, ap, subst, ◌∙◌, if◌then◌else◌}
use Rattle.std.proofs.lemmas.Bool.{cases_Bool, true≢false}
use Rattle.qm_lex.specs.declared.place.Place.{Place}
use Rattle.qm_lex.specs.declared.token.Keyword.TheVariants as keyword
use Rattle.qm_parse.specs.declared.fault.What.{What}
use Rattle.qm_parse.specs.declared.fault.What.TheVariants as what
use Rattle.qm_parse.specs.declared.stage.Seen.{Seen}
use Rattle.qm_parse.specs.declared.stage.Stage.{Stage}
use Rattle.qm_parse.specs.declared.stage.Stage.TheVariants as stage
use Rattle.qm_parse.specs.declared.stage.State.{State}
use Rattle.qm_parse.specs.declared.word.Symbol.{Symbol}
use Rattle.qm_parse.specs.declared.word.Word.{Word}
use Rattle.qm_parse.specs.declared.word.Word.TheVariants.{Name, Related, Colon, Keyword as Reserved}
use Rattle.qm_parse.specs.Parts.{BoundEnds, RowEnds, Says}
use Rattle.qm_parse.specs.Stages.{bound_begun, expected, fits_line, may_end, may_share_line, missing, moved, next_state, step, wanted}
use Rattle.qm_parse.specs.Texts.{KnowColons, KnowsColon, is_colon_next}
use Rattle.qm_parse.specs.Wants.{BoundWants, HeadingWants, NextWants, RowWants}
use Rattle.qm_parse.proofs.ReadSteps.{fits_shared, step_taken}
use Rattle.qm_parse.proofs.ReadWords.{FirstFits}
use Rattle.qm_parse.proofs.WrittenSteps.{state, symbol}
use Rattle.qm_parse.proofs.WantedFronts.{BoundEndFront, BoundsFront, Front, HeadingFront, RowEndFront, RowsFront}
use Rattle.qm_parse.proofs.WantedBounds.{bound_ends}
use Rattle.qm_parse.proofs.WantedRows.{row_ends}

-- here the text can't go on, and this is told
abbrev pub Stops : Stage → Seen → List Symbol → What → Type 0
Stops s seen [] e = (¬ (s ≡ stage.Ended)) × (e ≡ wanted s)
Stops s seen (first ∷ rest) e = (next_state (state s seen) first ≡ None) × (e ≡ expected s first)

-- ---- what is told

missing_plain : (s : Stage) (word : Word) → may_end s ≡ false → missing s word ≡ wanted s
unfolding missing
missing_plain s (Reserved keyword.End) plain = ap (λ b. if b then what.Order else wanted s) plain
missing_plain s word plain = refl

expected_fits : (s : Stage) (first : Symbol) → fits_line s first ≡ true → expected s first ≡ missing s first.word
unfolding expected
expected_fits s first fits = ap (λ b. if b then missing s first.word else what.LineEnd) fits

expected_line : (s : Stage) (first : Symbol) → fits_line s first ≡ false → expected s first ≡ what.LineEnd
unfolding expected
expected_line s first breaks = ap (λ b. if b then missing s first.word else what.LineEnd) breaks

-- within a part
told : (s : Stage) (seen : Seen) (rest : List Symbol) (e : What) → may_end s ≡ false → ((word : Word) → may_share_line s word ≡ true) → Stops s seen rest e → e ≡ wanted s
told s seen [] e plain shares stops = stops.1
told s seen (first ∷ rest) e plain shares stops =
    stops.1 ∙ expected_fits s first (fits_shared s first (shares first.word)) ∙ missing_plain s first.word plain

next_by_word : (s : Stage) (word : Word) (at : Place) (line : Bool) (rest : List Symbol) (e : What) → may_end s ≡ true → wanted s ≡ what.Section → e ≡ missing s word
    → NextWants e (symbol word at line ∷ rest) (symbol word at line ∷ rest)
unfolding missing
next_by_word s (Reserved keyword.End) at line rest e ends section is =
    let all = symbol (Reserved keyword.End) at line ∷ rest in
    subst (λ w. NextWants w all all) (sym (is ∙ ap (λ b. if b then what.Order else wanted s) ends)) (refl, refl)
next_by_word s word at line rest e ends section is =
    let all = symbol word at line ∷ rest in
    subst (λ w. NextWants w all all) (sym (is ∙ section)) ((λ next. cc), refl)

-- where a section may begin
next_wants : (s : Stage) (seen : Seen) (rest : List Symbol) (e : What) → may_end s ≡ true → wanted s ≡ what.Section → FirstFits s rest → Stops s seen rest e → NextWants e rest rest
next_wants s seen [] e ends section fits stops = subst (λ w. NextWants w [] []) (sym (stops.1 ∙ section)) ((λ next. next), refl)
next_wants s seen (first ∷ rest) e ends section fits stops =
    next_by_word s first.word first.place first.begins_line rest e ends section (stops.1 ∙ expected_fits s first fits)

all_fit : (s : Stage) (rest : List Symbol) → ((word : Word) → may_share_line s word ≡ true) → FirstFits s rest
all_fit s [] shares = tt
all_fit s (first ∷ rest) shares = fits_shared s first (shares first.word)

row_next : (e : What) (symbols rest : List Symbol) → NextWants e symbols rest → RowWants e symbols rest
row_next what.Section symbols rest p = p
row_next what.Order symbols rest p = p
row_next e symbols rest p = absurd p

bound_next : (e : What) (symbols rest : List Symbol) → NextWants e symbols rest → BoundWants e symbols rest
bound_next what.Section symbols rest p = p
bound_next what.Order symbols rest p = p
bound_next e symbols rest p = absurd p

rows_stop : (e : What) (rest : List Symbol) → NextWants e rest rest → RowsFront e rest rest
rows_stop e rest next = (rest, ([], refl), inl (row_next e rest rest next))

bounds_stop : (e : What) (rest : List Symbol) → NextWants e rest rest → BoundsFront e rest rest
bounds_stop e rest next = (rest, ([], refl), inl (bound_next e rest rest next))

heading_stop : (e : What) (rest : List Symbol) → e ≡ what.SubjectTo → HeadingFront e rest rest
heading_stop e rest is = inl (subst (λ w. HeadingWants w rest rest) (sym is) refl)

-- ---- line ends

colon_first : (symbols rest : List Symbol) → Says Colon symbols rest → is_colon_next symbols
colon_first [] rest p = absurd p
colon_first (first ∷ symbols) rest p = p.0

-- what ends a row fits its line
row_fits : (word : Word) (at : Place) (line : Bool) (rest : List Symbol) → KnowsColon (symbol word at line) rest → RowEnds (symbol word at line ∷ rest) (symbol word at line ∷ rest)
    → (line || may_share_line stage.RowEnd word) ≡ true
unfolding may_share_line
row_fits word at true rest knows ends = refl
row_fits (Reserved k) at false rest knows ends = refl
row_fits (Name n true) at false rest knows ends = refl
row_fits word at false rest knows (inl begins, same) = absurd cc
row_fits word at false rest knows (inr (inl reserved), same) = absurd (let apart = reserved.1 in cc)
row_fits (Name n false) at false rest knows (inr (inr (more, (m, place, (between, (name, placed, behind), colon)))), same) =
    elim (knows n false refl) [
      | inl label ↦ absurd (let apart = label.0 in cc)
      | inr plain ↦ absurd (plain.1 (subst is_colon_next (sym behind) (colon_first between more colon)))
    ]
row_fits word at false rest knows (inr (inr (more, (m, place, (between, ((labels, name), placed, behind), colon)))), same) = absurd cc

bound_fits : (word : Word) (at : Place) (line : Bool) (rest : List Symbol) → BoundEnds (symbol word at line ∷ rest) (symbol word at line ∷ rest) → (line || may_share_line stage.BoundEnd word) ≡ true
unfolding may_share_line
bound_fits word at true rest ends = refl
bound_fits (Reserved k) at false rest ends = refl
bound_fits word at false rest (inl begins, same) = absurd cc
bound_fits word at false rest (inr reserved, same) = absurd (let apart = reserved.1 in cc)

fits_as : (s : Stage) (first : Symbol) → fits_line s first ≡ (first.begins_line || may_share_line s first.word)
unfolding fits_line
fits_as s first = refl

not_both : (b : Bool) → b ≡ false → b ≡ true → ⊥
not_both b f t = true≢false (sym t ∙ f)

row_end_stops : (seen : Seen) (rest : List Symbol) (e : What) → KnowColons rest → Stops stage.RowEnd seen rest e → RowEndFront e rest rest
unfolding may_end wanted
row_end_stops seen [] e colons stops = inr ([], refl, rows_stop e [] (next_wants stage.RowEnd seen [] e refl refl tt stops))
row_end_stops seen (first ∷ rest) e colons stops =
    elim (cases_Bool (fits_line stage.RowEnd first)) [
      | inl fits ↦
          inr (
            first ∷ rest,
            row_ends first.word first.place first.begins_line rest colons.0 (sym (fits_as stage.RowEnd first) ∙ fits),
            rows_stop e (first ∷ rest) (next_wants stage.RowEnd seen (first ∷ rest) e refl refl fits stops),
          )
      | inr breaks ↦
          inl (
            stops.1 ∙ expected_line stage.RowEnd first breaks,
            ((λ ends. not_both (fits_line stage.RowEnd first) breaks (fits_as stage.RowEnd first ∙ row_fits first.word first.place first.begins_line rest colons.0 ends)), refl),
          )
    ]

bound_end_stops : (seen : Seen) (rest : List Symbol) (e : What) → Stops stage.BoundEnd seen rest e → BoundEndFront e rest rest
unfolding may_end wanted
bound_end_stops seen [] e stops = inr ([], refl, bounds_stop e [] (next_wants stage.BoundEnd seen [] e refl refl tt stops))
bound_end_stops seen (first ∷ rest) e stops =
    elim (cases_Bool (fits_line stage.BoundEnd first)) [
      | inl fits ↦
          inr (
            first ∷ rest,
            bound_ends first.word first.place first.begins_line rest (sym (fits_as stage.BoundEnd first) ∙ fits),
            bounds_stop e (first ∷ rest) (next_wants stage.BoundEnd seen (first ∷ rest) e refl refl fits stops),
          )
      | inr breaks ↦
          inl (
            stops.1 ∙ expected_line stage.BoundEnd first breaks,
            ((λ ends. not_both (fits_line stage.BoundEnd first) breaks (fits_as stage.BoundEnd first ∙ bound_fits first.word first.place first.begins_line rest ends)), refl),
          )
    ]

-- where a second relation may follow, all else stops as behind a bound
named_stops : (word : Word) (at : Place) (line : Bool) (seen : Seen) (rest : List Symbol) (e : What) → Stops stage.BoundNamed seen (symbol word at line ∷ rest) e
    → Stops stage.BoundEnd seen (symbol word at line ∷ rest) e
unfolding next_state fits_line may_share_line moved step bound_begun may_end expected missing wanted
named_stops (Related relation) at true seen rest e stops = absurd (let apart = stops.0 in cc)
named_stops (Related relation) at false seen rest e stops = absurd (let apart = stops.0 in cc)
named_stops (Reserved keyword.End) at line seen rest e stops = stops
named_stops word at line seen rest e stops = stops

as_bound_end : (seen : Seen) (rest : List Symbol) (e : What) → Stops stage.BoundNamed seen rest e → Stops stage.BoundEnd seen rest e
unfolding wanted
as_bound_end seen [] e stops = ((λ same. cc), stops.1)
as_bound_end seen (first ∷ rest) e stops = named_stops first.word first.place first.begins_line seen rest e stops

-- ---- labels

colon_follows : (s next : Stage) (seen : Seen) (rest : List Symbol) (e : What) → step s Colon ≡ Some next → ((word : Word) → may_share_line s word ≡ true) → is_colon_next rest → Stops s seen rest e → ⊥
colon_follows s next seen [] e steps shares is stops = absurd is
colon_follows s next seen (first ∷ rest) e steps shares is stops =
    let taken = step_taken s next seen first (fits_shared s first (shares first.word)) (ap (step s) is ∙ steps) in
    no_state (state next seen) (sym (stops.0) ∙ taken)
  where
    no_state : (other : State) → ◌≡◌ {A = Option State} None (Some other) → ⊥
    no_state other same = cc

-- ---- all stages

pub stop_front : (s : Stage) (seen : Seen) (rest : List Symbol) (e : What) → KnowColons rest → Stops s seen rest e → Front s e rest rest
unfolding may_end may_share_line wanted step
stop_front stage.Start seen rest e colons stops = inl (told stage.Start seen rest e refl (λ w. refl) stops, refl)
stop_front stage.ObjectiveFirst seen rest e colons stops =
    inr (rest, ([], (rest, inr refl, refl)), heading_stop e rest (told stage.ObjectiveFirst seen rest e refl (λ w. refl) stops))
stop_front stage.ObjectiveLabel seen rest e colons stops = λ next. absurd (colon_follows stage.ObjectiveLabel stage.ObjectiveBegin seen rest e refl (λ w. refl) next stops)
stop_front stage.ObjectiveBegin seen rest e colons stops = (rest, ([], refl), inr (heading_stop e rest (told stage.ObjectiveBegin seen rest e refl (λ w. refl) stops)))
stop_front stage.ObjectiveSigned seen rest e colons stops = (rest, ([], refl), inl (told stage.ObjectiveSigned seen rest e refl (λ w. refl) stops, refl))
stop_front stage.ObjectiveNumber seen rest e colons stops = inl (rest, ([], refl), inr (heading_stop e rest (told stage.ObjectiveNumber seen rest e refl (λ w. refl) stops)))
stop_front stage.ObjectiveTerm seen rest e colons stops = (rest, ([], refl), inr (heading_stop e rest (told stage.ObjectiveTerm seen rest e refl (λ w. refl) stops)))
stop_front stage.SubjectHeading seen rest e colons stops = inl (told stage.SubjectHeading seen rest e refl (λ w. refl) stops, refl)
stop_front stage.UncertaintyHeading seen rest e colons stops = heading_stop e rest (told stage.UncertaintyHeading seen rest e refl (λ w. refl) stops)
stop_front stage.RowsBegin seen rest e colons stops = rows_stop e rest (next_wants stage.RowsBegin seen rest e refl refl (all_fit stage.RowsBegin rest (λ w. refl)) stops)
stop_front stage.RowLabel seen rest e colons stops = λ next. absurd (colon_follows stage.RowLabel stage.RowSigned seen rest e refl (λ w. refl) next stops)
stop_front stage.RowSigned seen rest e colons stops = (rest, ([], refl), inl (told stage.RowSigned seen rest e refl (λ w. refl) stops, refl))
stop_front stage.RowNumber seen rest e colons stops = inl (told stage.RowNumber seen rest e refl (λ w. refl) stops, refl)
stop_front stage.RowTerm seen rest e colons stops = (rest, ([], refl), inl (told stage.RowTerm seen rest e refl (λ w. refl) stops, refl))
stop_front stage.RowRelation seen rest e colons stops = inl (told stage.RowRelation seen rest e refl (λ w. refl) stops, ([], refl))
stop_front stage.RowEnd seen rest e colons stops = row_end_stops seen rest e colons stops
stop_front stage.BoundsBegin seen rest e colons stops = bounds_stop e rest (next_wants stage.BoundsBegin seen rest e refl refl (all_fit stage.BoundsBegin rest (λ w. refl)) stops)
stop_front stage.BoundSigned seen rest e colons stops = inl (told stage.BoundSigned seen rest e refl (λ w. refl) stops, ([], refl))
stop_front stage.BoundValue seen rest e colons stops = inl (told stage.BoundValue seen rest e refl (λ w. refl) stops, refl)
stop_front stage.BoundTurned seen rest e colons stops = inl (told stage.BoundTurned seen rest e refl (λ w. refl) stops, refl)
stop_front stage.BoundNamed seen rest e colons stops = inl (bound_end_stops seen rest e (as_bound_end seen rest e stops))
stop_front stage.BoundName seen rest e colons stops = inl (told stage.BoundName seen rest e refl (λ w. refl) stops, refl)
stop_front stage.BoundRelation seen rest e colons stops = inl (told stage.BoundRelation seen rest e refl (λ w. refl) stops, ([], refl))
stop_front stage.BoundEnd seen rest e colons stops = bound_end_stops seen rest e stops
stop_front (stage.Names list) seen rest e colons stops =
    (rest, ([], refl), inl (next_wants (stage.Names list) seen rest e refl refl (all_fit (stage.Names list) rest (λ w. refl)) stops))
stop_front stage.Ended seen rest e colons stops = (told stage.Ended seen rest e refl (λ w. refl) stops, refl)
