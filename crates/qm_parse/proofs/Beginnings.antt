-- What the automaton says of a front of symbols, and of the last of them.
use Rattle.std.proofs.Common.{◌≡◌, ℕ, Bool, true, false, ◌||◌, List, [], ◌∷◌, ◌++◌, ◌⊎◌, inl, inr, Option, Some, None, Result, Ok, Err, if◌then◌else◌, refl, sym, ap, ◌∙◌}
use Rattle.qm_lex.specs.declared.place.Place.{Place}
use Rattle.qm_parse.specs.declared.ast.Ast.{Ast}
use Rattle.qm_parse.specs.declared.draft.Draft.{Draft}
use Rattle.qm_parse.specs.declared.stage.Seen.{Seen}
use Rattle.qm_parse.specs.declared.stage.Stage.{Stage}
use Rattle.qm_parse.specs.declared.stage.Stage.TheVariants as stage
use Rattle.qm_parse.specs.declared.stage.State.{State}
use Rattle.qm_parse.specs.declared.unread.Unread.{Unread}
use Rattle.qm_parse.specs.declared.unread.Unread.TheVariants as unread
use Rattle.qm_parse.specs.declared.word.Symbol.{Symbol}
use Rattle.qm_parse.specs.declared.word.Word.{Word}
use Rattle.qm_parse.specs.declared.word.Word.TheVariants.{Name, Number, Sign, Related, Colon, Keyword as Reserved, Infinite, Free}
use Rattle.qm_parse.specs.Drafts.{noted, one}
use Rattle.qm_parse.specs.Faults.{in_range, no_label, number_in_range, state_behind}
use Rattle.qm_parse.specs.Reading.{leaves, read}
use Rattle.qm_parse.specs.Stages.{bound_begun, expected, fits_line, followed, may_end, may_share_line, moved, next_state, objective_begun, row_begun, step}
use Rattle.qm_parse.proofs.ReadSteps.{AreReadAs, read_moved, reads_symbol}

-- ---- reading, step by step

pub next_cases : (state : State) (symbol : Symbol) → (next_state state symbol ≡ None) ⊎ ((next : State) × (next_state state symbol ≡ Some next))
next_cases state symbol = option_cases (next_state state symbol)
  where
    option_cases : (o : Option State) → (o ≡ None) ⊎ ((next : State) × (o ≡ Some next))
    option_cases None = inl refl
    option_cases (Some next) = inr (next, refl)

-- a token that may not follow is a fault
pub refused : (state : State) (draft : Draft) (symbol : Symbol) (rest : List Symbol) (end : Place) → next_state state symbol ≡ None
    → read state draft (symbol ∷ rest) end ≡ Err (unread.Expected symbol.place (expected state.stage symbol))
unfolding read
refused state draft symbol rest end e = ap (read_moved state draft symbol rest end) e

-- so is a number that leaves
pub left : (state next : State) (draft : Draft) (symbol : Symbol) (rest : List Symbol) (end : Place) → next_state state symbol ≡ Some next → leaves symbol.word ≡ true
    → read state draft (symbol ∷ rest) end ≡ Err (unread.Number symbol.place)
unfolding read
left state next draft symbol rest end moves leaving =
    let behind = noted state.stage state.seen.uncertainty symbol.word symbol.place draft in
    ap (read_moved state draft symbol rest end) moves ∙ ap (λ b. if b then Err (unread.Number symbol.place) else read next behind rest end) leaving

-- ---- numbers in range

-- no number leaves
abbrev pub AreInRange : List Symbol → Type 0
AreInRange [] = Unit {0}
AreInRange (symbol ∷ symbols) = (leaves symbol.word ≡ false) × AreInRange symbols

pub in_range-append : (front behind : List Symbol) → AreInRange front → AreInRange behind → AreInRange (front ++ behind)
in_range-append [] behind p q = q
in_range-append (symbol ∷ front) behind p q = (p.0, in_range-append front behind p.1 q)

pub in_range-behind : (front behind : List Symbol) → AreInRange (front ++ behind) → AreInRange behind
in_range-behind [] behind p = p
in_range-behind (symbol ∷ front) behind p = in_range-behind front behind p.1

abbrev pub answered : Ast → Result Ast Unread
answered ast = Ok ast

abbrev pub failed : Unread → Result Ast Unread
failed fault = Err fault

pub answered_is_not_failed : (ast : Ast) (fault : Unread) → answered ast ≡ failed fault → ⊥
answered_is_not_failed ast fault e = cc

-- what is read has no number that leaves
pub read_in_range : (state : State) (draft : Draft) (symbols : List Symbol) (end : Place) (ast : Ast) → read state draft symbols end ≡ Ok ast → AreInRange symbols
read_in_range state draft [] end ast e = tt
read_in_range state draft (symbol ∷ symbols) end ast e =
    elim (next_cases state symbol) [
      | inl none ↦ absurd (answered_is_not_failed ast (unread.Expected symbol.place (expected state.stage symbol)) (sym e ∙ refused state draft symbol symbols end none))
      | inr some ↦
          elim (leaves_cases symbol.word) [
            | inl leaving ↦ absurd (answered_is_not_failed ast (unread.Number symbol.place) (sym e ∙ left state some.0 draft symbol symbols end some.1 leaving))
            | inr stays ↦ (
              stays,
              read_in_range some.0 (noted state.stage state.seen.uncertainty symbol.word symbol.place draft) symbols end ast
                  (sym (reads_symbol state some.0 draft symbol symbols some.1 stays end) ∙ e),
            )
          ]
    ]
  where
    bool_cases : (b : Bool) → (b ≡ true) ⊎ (b ≡ false)
    bool_cases true = inl refl
    bool_cases false = inr refl

    leaves_cases : (word : Word) → (leaves word ≡ true) ⊎ (leaves word ≡ false)
    leaves_cases word = bool_cases (leaves word)

-- ---- fronts

pub state_is : (one other : State) → (Some one ≡ Some other) → one ≡ other
state_is one other e = cc

pub state_behind-step : (state next : State) (symbol : Symbol) (front : List Symbol) → next_state state symbol ≡ Some next → state_behind state (symbol ∷ front) ≡ state_behind next front
state_behind-step state next symbol front e = ap (λ (o : Option State). elim o as (λ _. Option State) [ None ↦ None | Some n ↦ state_behind n front ]) e

-- the first token of an accepted front may follow
pub front_moves : (state last : State) (symbol : Symbol) (front : List Symbol) → state_behind state (symbol ∷ front) ≡ Some last → (next : State) × (next_state state symbol ≡ Some next) × (state_behind next front ≡ Some last)
front_moves state last symbol front e =
    elim (next_cases state symbol) [
      | inl none ↦
          let stopped : None ≡ Some last = sym (ap (λ (o : Option State). elim o as (λ _. Option State) [ None ↦ None | Some n ↦ state_behind n front ]) none) ∙ e in
          absurd cc
      | inr some ↦ (some.0, some.1, sym (state_behind-step state some.0 symbol front some.1) ∙ e)
    ]

-- two fronts, one behind the other
pub state_behind-append : (state middle : State) (front behind : List Symbol) → state_behind state front ≡ Some middle → state_behind state (front ++ behind) ≡ state_behind middle behind
state_behind-append state middle [] behind e = ap (λ s. state_behind s behind) (state_is state middle e)
state_behind-append state middle (symbol ∷ front) behind e =
    let moves = front_moves state middle symbol front e in
    state_behind-step state moves.0 symbol (front ++ behind) moves.1 ∙ state_behind-append moves.0 middle front behind moves.2

-- an accepted front without a number that leaves is read over
pub front_read : (state last : State) (draft : Draft) (front : List Symbol) → state_behind state front ≡ Some last → AreInRange front
    → (behind : Draft) × ((rest : List Symbol) → AreReadAs state draft (front ++ rest) last behind rest)
front_read state last draft [] e p = (draft, λ rest end. ap (λ s. read s draft rest end) (state_is state last e))
front_read state last draft (symbol ∷ front) e p =
    let moves = front_moves state last symbol front e in
    let others = front_read moves.0 last (noted state.stage state.seen.uncertainty symbol.word symbol.place draft) front moves.2 p.1 in
    (others.0, λ rest end. reads_symbol state moves.0 draft symbol (front ++ rest) moves.1 p.0 end ∙ others.1 rest end)

-- ---- the next state by the word alone, and whether it begins a line

abbrev pub next_by : State → Bool → Word → Option State
next_by state begins word = if begins || may_share_line state.stage word then moved state word (step state.stage word) else None

pub next_state-by : (state : State) (symbol : Symbol) → next_state state symbol ≡ next_by state symbol.begins_line symbol.word
unfolding next_state fits_line
next_state-by state symbol = refl

number_step : (s : Stage) → step s (Number None) ≡ step s (Number (Some one))
unfolding step objective_begun row_begun bound_begun
number_step stage.Start = refl
number_step s = refl

number_line : (s : Stage) → may_share_line s (Number None) ≡ may_share_line s (Number (Some one))
unfolding may_share_line
number_line stage.Start = refl
number_line s = refl

number_moved : (state : State) (o : Option Stage) → moved state (Number None) o ≡ moved state (Number (Some one)) o
unfolding moved followed
number_moved state None = refl
number_moved state (Some s) = refl

next_by-range : (state : State) (begins : Bool) (word : Word) → next_by state begins (number_in_range word) ≡ next_by state begins word
next_by-range state begins (Number None) =
    ap (λ b. if begins || b then moved state (Number (Some one)) (step state.stage (Number (Some one))) else None) (sym (number_line state.stage))
    ∙ ap (λ o. if begins || may_share_line state.stage (Number None) then o else None) (sym (number_moved state (step state.stage (Number (Some one)))) ∙ ap (moved state (Number None)) (sym (number_step state.stage)))
next_by-range state begins (Number (Some value)) = refl
next_by-range state begins (Name n labels) = refl
next_by-range state begins (Sign minus) = refl
next_by-range state begins (Related relation) = refl
next_by-range state begins Colon = refl
next_by-range state begins (Reserved word) = refl
next_by-range state begins Infinite = refl
next_by-range state begins Free = refl

-- a number that leaves may follow where one that doesn't may
pub next_in_range : (state : State) (symbol : Symbol) → next_state state (in_range symbol) ≡ next_state state symbol
next_in_range state symbol = next_state-by state (in_range symbol) ∙ next_by-range state symbol.begins_line symbol.word ∙ sym (next_state-by state symbol)

refused_name : (s : Stage) (seen : Seen) (begins : Bool) (n : ℕ) → next_by (record { stage = s; seen = seen }) begins (Name n true) ≡ None → next_by (record { stage = s; seen = seen }) begins (Name n false) ≡ None
unfolding may_share_line step moved followed objective_begun row_begun bound_begun
refused_name stage.ObjectiveFirst seen true n e = absurd cc
refused_name stage.ObjectiveFirst seen false n e = absurd cc
refused_name stage.RowsBegin seen true n e = absurd cc
refused_name stage.RowsBegin seen false n e = absurd cc
refused_name stage.RowEnd seen true n e = absurd cc
refused_name stage.RowEnd seen false n e = absurd cc
refused_name s seen begins n e = e

refused_word : (state : State) (begins : Bool) (word : Word) → next_by state begins word ≡ None → next_by state begins (no_label word) ≡ None
refused_word state begins (Name n true) e = refused_name state.stage state.seen begins n e
refused_word state begins (Name n false) e = e
refused_word state begins (Number number) e = e
refused_word state begins (Sign minus) e = e
refused_word state begins (Related relation) e = e
refused_word state begins Colon e = e
refused_word state begins (Reserved word) e = e
refused_word state begins Infinite e = e
refused_word state begins Free e = e

abbrev pub no_label_symbol : Symbol → Symbol
no_label_symbol symbol = record symbol { word = no_label symbol.word }

-- what may not follow may not as a name that is no label
pub refused_unlabelled : (state : State) (symbol : Symbol) → next_state state symbol ≡ None → next_state state (no_label_symbol symbol) ≡ None
refused_unlabelled state symbol e =
    next_state-by state (no_label_symbol symbol) ∙ refused_word state symbol.begins_line symbol.word (sym (next_state-by state symbol) ∙ e)

-- behind a label a colon has to stand
abbrev pub is_label : Stage → Bool
is_label stage.ObjectiveLabel = true
is_label stage.RowLabel = true
is_label s = false

accepted_name : (s : Stage) (seen : Seen) (begins : Bool) (n : ℕ) (next : State) → is_label next.stage ≡ false → next_by (record { stage = s; seen = seen }) begins (Name n true) ≡ Some next
    → next_by (record { stage = s; seen = seen }) begins (Name n false) ≡ Some next
unfolding may_share_line step moved followed objective_begun row_begun bound_begun
accepted_name stage.ObjectiveFirst seen true n next other e = let same = ap is_label (ap (λ (s : State). s.stage) (state_is (record { stage = stage.ObjectiveLabel; seen = seen }) next e)) in absurd cc
accepted_name stage.ObjectiveFirst seen false n next other e = let same = ap is_label (ap (λ (s : State). s.stage) (state_is (record { stage = stage.ObjectiveLabel; seen = seen }) next e)) in absurd cc
accepted_name stage.RowsBegin seen true n next other e = let same = ap is_label (ap (λ (s : State). s.stage) (state_is (record { stage = stage.RowLabel; seen = seen }) next e)) in absurd cc
accepted_name stage.RowsBegin seen false n next other e = let same = ap is_label (ap (λ (s : State). s.stage) (state_is (record { stage = stage.RowLabel; seen = seen }) next e)) in absurd cc
accepted_name stage.RowEnd seen true n next other e = let same = ap is_label (ap (λ (s : State). s.stage) (state_is (record { stage = stage.RowLabel; seen = seen }) next e)) in absurd cc
accepted_name stage.RowEnd seen false n next other e = let same = ap is_label (ap (λ (s : State). s.stage) (state_is (record { stage = stage.RowLabel; seen = seen }) next e)) in absurd cc
accepted_name s seen begins n next other e = e

-- a name that may follow, and leads to no label, may follow as one that is none
pub accepted_unlabelled : (state next : State) (symbol : Symbol) (n : ℕ) → symbol.word ≡ Name n true → is_label next.stage ≡ false → next_state state symbol ≡ Some next → next_state state (no_label_symbol symbol) ≡ Some next
accepted_unlabelled state next symbol n is other e =
    next_state-by state (no_label_symbol symbol)
    ∙ ap (λ w. next_by state symbol.begins_line (no_label w)) is
    ∙ accepted_name state.stage state.seen symbol.begins_line n next other (sym (ap (next_by state symbol.begins_line) is) ∙ sym (next_state-by state symbol) ∙ e)

abbrev label_behind : Option State → Bool
label_behind None = false
label_behind (Some next) = is_label next.stage

plain_behind : (s : Stage) (seen : Seen) (begins : Bool) (n : ℕ) → label_behind (next_by (record { stage = s; seen = seen }) begins (Name n false)) ≡ false
unfolding may_share_line step moved followed may_end objective_begun row_begun bound_begun
plain_behind stage.Start seen true n = refl
plain_behind stage.Start seen false n = refl
plain_behind s seen true n = refl
plain_behind s seen false n = refl

-- a name behind which no colon stands leads to no label
pub plain_no_label : (state next : State) (symbol : Symbol) (n : ℕ) → symbol.word ≡ Name n false → next_state state symbol ≡ Some next → is_label next.stage ≡ false
plain_no_label state next symbol n is e =
    ap label_behind (sym e ∙ next_state-by state symbol ∙ ap (next_by state symbol.begins_line) is) ∙ plain_behind state.stage state.seen symbol.begins_line n
