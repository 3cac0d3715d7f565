-- What is not read has a first fault. That what is read is a text is a premise here.
use Rattle.std.proofs.Common.{◌≡◌, ◌≢◌, ℕ, Bool, true, false, List, [], ◌∷◌, ◌++◌, ◌⊎◌, ◌↔◌, inl, inr, Option, Some, None, Ok, Err, All, suc, refl, sym, ap, subst, ◌∙◌, append_assoc, append-nil, arith}
use Rattle.std.proofs.lemmas.Bool.{cases_Bool}
use Rattle.qm_lex.specs.declared.place.Place.{Place}
use Rattle.qm_parse.specs.declared.ast.Ast.{Ast}
use Rattle.qm_parse.specs.declared.draft.Draft.{Draft}
use Rattle.qm_parse.specs.declared.stage.Stage.{Stage}
use Rattle.qm_parse.specs.declared.stage.Stage.TheVariants as stage
use Rattle.qm_parse.specs.declared.stage.State.{State}
use Rattle.qm_parse.specs.declared.unread.Unread.{Unread}
use Rattle.qm_parse.specs.declared.unread.Unread.TheVariants as unread
use Rattle.qm_parse.specs.declared.word.Symbol.{Symbol}
use Rattle.qm_parse.specs.declared.word.Word.{Word}
use Rattle.qm_parse.specs.declared.word.Word.TheVariants.{Name, Number, Sign, Related, Colon, Keyword as Reserved, Infinite, Free}
use Rattle.qm_parse.specs.Drafts.{noted, one}
use Rattle.qm_parse.specs.Faults.{CanGoOn, IsFirstFault, in_range, no_label, number_in_range, state_behind, unlabelled}
use Rattle.qm_parse.specs.Reading.{empty_draft, finished, leaves, read, start}
use Rattle.qm_parse.specs.Stages.{expected, next_state, wanted}
use Rattle.qm_parse.specs.Texts.{IsText, KnowColons, KnowsColon, is_colon_next}
use Rattle.qm_parse.proofs.ReadSteps.{reads_symbol}
use Rattle.qm_parse.proofs.ReadTexts.{text_reads}
use Rattle.qm_parse.proofs.Beginnings.{AreInRange, accepted_unlabelled, failed, front_moves, front_read, in_range-append, is_label, left, next_cases, next_in_range, no_label_symbol, answered_is_not_failed, plain_no_label, refused, refused_unlabelled, state_behind-append, state_behind-step}
use Rattle.qm_parse.proofs.Endings.{AreRead, ending, ending_colons, ending_label, ending_plain, ending_read}

-- what is read is a text
abbrev pub ReadIsWritten : Type 0
ReadIsWritten = (names : List (List ℕ)) (symbols : List Symbol) (ast : Ast) (end : Place) → KnowColons symbols → read start (empty_draft names) symbols end ≡ Ok ast → IsText names symbols ast

-- ---- an accepted front, and tokens that end it

-- the front, perhaps with no label at its end, and tokens with which it is read
pub record Closes (state : State) (front : List Symbol) : Type 0 where
  pub written : List Symbol
  pub same : (written ≡ front) ⊎ (written ≡ unlabelled front)
  pub more : List Symbol
  pub colons : KnowColons (written ++ more)
  pub is_read : AreRead state (written ++ more)
  pub alike : is_colon_next (written ++ more) ↔ is_colon_next front

-- one token more before what is read
read_before : (state next : State) (symbol : Symbol) (more : List Symbol) → next_state state symbol ≡ Some next → leaves symbol.word ≡ false → AreRead next more → AreRead state (symbol ∷ more)
read_before state next symbol more moves stays others = λ draft end.
    let behind = others (noted state.stage state.seen.uncertainty symbol.word symbol.place draft) end in
    (behind.0, reads_symbol state next draft symbol more moves stays end ∙ behind.1)

last_read : (state next : State) (symbol : Symbol) → next_state state symbol ≡ Some next → leaves symbol.word ≡ false → AreRead state (symbol ∷ ending next.stage next.seen.order)
last_read state next symbol moves stays = read_before state next symbol (ending next.stage next.seen.order) moves stays (ending_read next.stage next.seen)

closes_as_it_is : (state next : State) (symbol : Symbol) → next_state state symbol ≡ Some next → leaves symbol.word ≡ false → KnowsColon symbol (ending next.stage next.seen.order) → Closes state (symbol ∷ [])
closes_as_it_is state next symbol moves stays knows = record {
  written = symbol ∷ [];
  same = inl refl;
  more = ending next.stage next.seen.order;
  colons = (knows, ending_colons next.stage next.seen.order);
  is_read = last_read state next symbol moves stays;
  alike = (λ e. e, λ e. e);
}

pub no_label-leaves : (word : Word) → leaves (no_label word) ≡ leaves word
unfolding leaves
no_label-leaves (Name n labels) = refl
no_label-leaves (Number number) = refl
no_label-leaves (Sign minus) = refl
no_label-leaves (Related relation) = refl
no_label-leaves Colon = refl
no_label-leaves (Reserved word) = refl
no_label-leaves Infinite = refl
no_label-leaves Free = refl

no_label-colon : (word : Word) → (no_label word ≡ Colon) ↔ (word ≡ Colon)
no_label-colon (Name n labels) = (λ e. absurd cc, λ e. absurd cc)
no_label-colon (Number number) = (λ e. e, λ e. e)
no_label-colon (Sign minus) = (λ e. e, λ e. e)
no_label-colon (Related relation) = (λ e. e, λ e. e)
no_label-colon Colon = (λ e. e, λ e. e)
no_label-colon (Reserved word) = (λ e. e, λ e. e)
no_label-colon Infinite = (λ e. e, λ e. e)
no_label-colon Free = (λ e. e, λ e. e)

abbrev flag_of : Word → Bool
flag_of (Name n labels) = labels
flag_of word = false

name_knows : (symbol : Symbol) (n : ℕ) (more : List Symbol) → symbol.word ≡ Name n false → ¬ is_colon_next more → KnowsColon symbol more
name_knows symbol n more is none = λ m labels e. inr (ap flag_of (sym e ∙ is), none)

label_knows : (symbol : Symbol) (n : ℕ) (more : List Symbol) → symbol.word ≡ Name n true → is_colon_next more → KnowsColon symbol more
label_knows symbol n more is next = λ m labels e. inl (ap flag_of (sym e ∙ is), next)

no_label_is : (symbol : Symbol) (n : ℕ) (labels : Bool) → symbol.word ≡ Name n labels → (no_label_symbol symbol).word ≡ Name n false
no_label_is symbol n labels is = ap no_label is

closes_unlabelled : (state next : State) (symbol : Symbol) (n : ℕ) → symbol.word ≡ Name n true → is_label next.stage ≡ false → next_state state symbol ≡ Some next → leaves symbol.word ≡ false → Closes state (symbol ∷ [])
closes_unlabelled state next symbol n is other moves stays = record {
  written = no_label_symbol symbol ∷ [];
  same = inr refl;
  more = ending next.stage next.seen.order;
  colons =
      (name_knows (no_label_symbol symbol) n (ending next.stage next.seen.order) (no_label_is symbol n true is) (ending_plain next.stage next.seen.order other), ending_colons next.stage next.seen.order);
  is_read = last_read state next (no_label_symbol symbol) (accepted_unlabelled state next symbol n is other moves) (no_label-leaves symbol.word ∙ stays);
  alike = no_label-colon symbol.word;
}

-- a name or another word
word_cases : (word : Word) → ((n : ℕ) × (word ≡ Name n true)) ⊎ ((n : ℕ) × (word ≡ Name n false)) ⊎ ((n : ℕ) (labels : Bool) → word ≢ Name n labels)
word_cases (Name n true) = inl (n, refl)
word_cases (Name n false) = inr (inl (n, refl))
word_cases (Number number) = inr (inr (λ n labels e. absurd cc))
word_cases (Sign minus) = inr (inr (λ n labels e. absurd cc))
word_cases (Related relation) = inr (inr (λ n labels e. absurd cc))
word_cases Colon = inr (inr (λ n labels e. absurd cc))
word_cases (Reserved word) = inr (inr (λ n labels e. absurd cc))
word_cases Infinite = inr (inr (λ n labels e. absurd cc))
word_cases Free = inr (inr (λ n labels e. absurd cc))

closes_last : (state next : State) (symbol : Symbol) → next_state state symbol ≡ Some next → leaves symbol.word ≡ false → Closes state (symbol ∷ [])
closes_last state next symbol moves stays =
    elim (word_cases symbol.word) [
      | inl label ↦
          elim (cases_Bool (is_label next.stage)) [
            | inl is ↦ closes_as_it_is state next symbol moves stays (label_knows symbol label.0 (ending next.stage next.seen.order) label.1 (ending_label next.stage next.seen.order is))
            | inr other ↦ closes_unlabelled state next symbol label.0 label.1 other moves stays
          ]
      | inr (inl plain) ↦
          closes_as_it_is state next symbol moves stays
          (name_knows symbol plain.0 (ending next.stage next.seen.order) plain.1 (ending_plain next.stage next.seen.order (plain_no_label state next symbol plain.0 plain.1 moves)))
      | inr (inr none) ↦ closes_as_it_is state next symbol moves stays (λ n labels is. absurd (none n labels is))
    ]

-- a token knows its colon by what stands behind it
knows_alike : (symbol : Symbol) (here there : List Symbol) → (is_colon_next there ↔ is_colon_next here) → KnowsColon symbol here → KnowsColon symbol there
knows_alike symbol here there alike knows = λ n labels is.
    elim (knows n labels is) [
      | inl p ↦ inl (p.0, alike.1 p.1)
      | inr p ↦ inr (p.0, λ next. p.1 (alike.0 next))
    ]

same_further : (symbol next : Symbol) (front written : List Symbol) → (written ≡ next ∷ front) ⊎ (written ≡ unlabelled (next ∷ front))
    → (symbol ∷ written ≡ symbol ∷ next ∷ front) ⊎ (symbol ∷ written ≡ unlabelled (symbol ∷ next ∷ front))
same_further symbol next front written (inl e) = inl (ap (λ xs. symbol ∷ xs) e)
same_further symbol next front written (inr e) = inr (ap (λ xs. symbol ∷ xs) e)

-- each accepted front without a number that leaves is closed by some tokens
closes : (state last : State) (symbol : Symbol) (front behind : List Symbol) → state_behind state (symbol ∷ front) ≡ Some last → AreInRange (symbol ∷ front) → KnowColons ((symbol ∷ front) ++ behind)
    → Closes state (symbol ∷ front)
closes state last symbol [] behind reached ranges colons =
    let moves = front_moves state last symbol [] reached in
    closes_last state moves.0 symbol moves.1 ranges.0
closes state last symbol (next ∷ front) behind reached ranges colons =
    let moves = front_moves state last symbol (next ∷ front) reached in
    let others = closes moves.0 last next front behind moves.2 ranges.1 colons.1 in record {
      written = symbol ∷ others.written;
      same = same_further symbol next front others.written others.same;
      more = others.more;
      colons = (knows_alike symbol ((next ∷ front) ++ behind) (others.written ++ others.more) others.alike colons.0, others.colons);
      is_read = read_before state moves.0 symbol (others.written ++ others.more) moves.1 ranges.0 others.is_read;
      alike = (λ e. e, λ e. e);
    }

nothing_closes : (state : State) → is_label state.stage ≡ false → Closes state []
nothing_closes state other = record {
  written = [];
  same = inl refl;
  more = ending state.stage state.seen.order;
  colons = ending_colons state.stage state.seen.order;
  is_read = ending_read state.stage state.seen;
  alike = (λ next. absurd (ending_plain state.stage state.seen.order other next), λ next. absurd next);
}

front_closes : (last : State) (front behind : List Symbol) → state_behind start front ≡ Some last → AreInRange front → KnowColons (front ++ behind) → Closes start front
unfolding start
front_closes last [] behind reached ranges colons = nothing_closes start refl
front_closes last (symbol ∷ front) behind reached ranges colons = closes start last symbol front behind reached ranges colons

-- a front that the automaton accepts is the beginning of a text
pub goes_on : ReadIsWritten → (last : State) (front behind : List Symbol) → state_behind start front ≡ Some last → AreInRange front → KnowColons (front ++ behind) → CanGoOn front
goes_on written_is last front behind reached ranges colons =
    let closed = front_closes last front behind reached ranges colons in
    let end : Place = record { line = 1; column = 1 } in
    let answer = closed.is_read (empty_draft []) end in record {
      written = closed.written;
      same = closed.same;
      more = closed.more;
      names = [];
      ast = answer.0;
      colons = closed.colons;
      text = written_is [] (closed.written ++ closed.more) answer.0 end closed.colons answer.1;
    }

-- ---- a front that stops

unlabelled-last : (front : List Symbol) (symbol : Symbol) → unlabelled (front ++ symbol ∷ []) ≡ front ++ no_label_symbol symbol ∷ []
unlabelled-last [] symbol = refl
unlabelled-last (first ∷ []) symbol = refl
unlabelled-last (first ∷ next ∷ front) symbol = ap (λ xs. first ∷ xs) (unlabelled-last (next ∷ front) symbol)

-- a text does not begin with a front behind which its next token may not follow
no_text : (names : List (List ℕ)) (ast : Ast) (state : State) (front : List Symbol) (symbol : Symbol) (more : List Symbol) → state_behind start front ≡ Some state → AreInRange front
    → next_state state symbol ≡ None → KnowColons ((front ++ symbol ∷ []) ++ more) → ¬ IsText names ((front ++ symbol ∷ []) ++ more) ast
no_text names ast state front symbol more reached ranges none colons text =
    let end : Place = record { line = 1; column = 1 } in
    let over = front_read start state (empty_draft names) front reached ranges in
    let all = ap (λ xs. read start (empty_draft names) xs end) (append_assoc front (symbol ∷ []) more) in
    answered_is_not_failed ast (unread.Expected symbol.place (expected state.stage symbol))
    (sym (text_reads names ((front ++ symbol ∷ []) ++ more) ast end colons text) ∙ all ∙ over.1 (symbol ∷ more) end ∙ refused state over.0 symbol more end none)

stops_as : (state : State) (front : List Symbol) (symbol : Symbol) → state_behind start front ≡ Some state → AreInRange front → next_state state symbol ≡ None → ¬ CanGoOn (front ++ symbol ∷ [])
stops_as state front symbol reached ranges none further =
    elim further.same [
      | inl same ↦
          no_text further.names further.ast state front symbol further.more reached ranges none
          (subst (λ xs. KnowColons (xs ++ further.more)) same further.colons)
          (subst (λ xs. IsText further.names (xs ++ further.more) further.ast) same further.text)
      | inr same ↦
          let whole = same ∙ unlabelled-last front symbol in
          no_text further.names further.ast state front (no_label_symbol symbol) further.more reached ranges (refused_unlabelled state symbol none)
          (subst (λ xs. KnowColons (xs ++ further.more)) whole further.colons)
          (subst (λ xs. IsText further.names (xs ++ further.more) further.ast) whole further.text)
    ]

pub stops : (state : State) (front : List Symbol) (symbol : Symbol) → state_behind start front ≡ Some state → AreInRange front → next_state state symbol ≡ None → ¬ CanGoOn (front ++ in_range symbol ∷ [])
stops state front symbol reached ranges none = stops_as state front (in_range symbol) reached ranges (next_in_range state symbol ∙ none)

-- ---- the first fault

failed_is : (one other : Unread) → failed one ≡ failed other → one ≡ other
failed_is one other e = cc

-- where the text ends too early
finished_fault : (s : Stage) (draft other : Draft) (end : Place) (fault : Unread) → finished s draft end ≡ Err fault → (fault ≡ unread.Expected end (wanted s)) × (finished s other end ≡ Err fault)
unfolding finished
finished_fault stage.Ended draft other end fault e = absurd (answered_is_not_failed draft.ast fault e)
finished_fault s draft other end fault e = (sym (failed_is (unread.Expected end (wanted s)) fault e), e)

read_end : (state : State) (draft : Draft) (end : Place) → read state draft [] end ≡ finished state.stage draft end
unfolding read
read_end state draft end = refl

ends_too_early : ReadIsWritten → (state : State) (front : List Symbol) (draft : Draft) (end : Place) (fault : Unread) → state_behind start front ≡ Some state → AreInRange front → KnowColons (front ++ [])
    → read state draft [] end ≡ Err fault → IsFirstFault (front ++ []) end fault
ends_too_early written_is state front draft end fault reached ranges colons e =
    let ended : finished state.stage draft end ≡ Err fault = sym (read_end state draft end) ∙ e in
    record {
      front = front;
      behind = [];
      state = state;
      parts = refl;
      goes_on = goes_on written_is state front [] reached ranges colons;
      reached = reached;
      stops = (
        (finished_fault state.stage draft draft end fault ended).0,
        λ names ast text.
            let over = front_read start state (empty_draft names) front reached ranges in
            let all = ap (λ xs. read start (empty_draft names) xs end) (sym (append-nil front)) in
            answered_is_not_failed ast fault
            (sym (text_reads names front ast end (subst KnowColons (append-nil front) colons) text) ∙ all ∙ over.1 [] end ∙ read_end state over.0 end ∙ (finished_fault state.stage draft over.0 end fault ended).1),
      );
    }

may_not_follow : ReadIsWritten → (state : State) (front rest : List Symbol) (symbol : Symbol) (draft : Draft) (end : Place) (fault : Unread) → state_behind start front ≡ Some state → AreInRange front
    → KnowColons (front ++ symbol ∷ rest) → next_state state symbol ≡ None → read state draft (symbol ∷ rest) end ≡ Err fault → IsFirstFault (front ++ symbol ∷ rest) end fault
may_not_follow written_is state front rest symbol draft end fault reached ranges colons none e = record {
  front = front;
  behind = symbol ∷ rest;
  state = state;
  parts = refl;
  goes_on = goes_on written_is state front (symbol ∷ rest) reached ranges colons;
  reached = reached;
  stops = inr (
    sym (failed_is (unread.Expected symbol.place (expected state.stage symbol)) fault (sym (refused state draft symbol rest end none) ∙ e)),
    stops state front symbol reached ranges none,
  );
}

pub leaving_number : (word : Word) → leaves word ≡ true → word ≡ Number None
unfolding leaves
leaving_number (Number None) e = refl
leaving_number (Number (Some value)) e = absurd cc
leaving_number (Name n labels) e = absurd cc
leaving_number (Sign minus) e = absurd cc
leaving_number (Related relation) e = absurd cc
leaving_number Colon e = absurd cc
leaving_number (Reserved word) e = absurd cc
leaving_number Infinite e = absurd cc
leaving_number Free e = absurd cc

pub number_word : (symbol : Symbol) → symbol.word ≡ Number None → (in_range symbol).word ≡ Number (Some one)
number_word symbol is = ap number_in_range is

number_knows : (symbol : Symbol) (rest : List Symbol) → symbol.word ≡ Number (Some one) → KnowsColon symbol rest
number_knows symbol rest is = λ n labels e. let apart : Number (Some one) ≡ Name n labels = sym is ∙ e in absurd cc

number_no_colon : (symbol : Symbol) (number : Option _) → symbol.word ≡ Number number → symbol.word ≡ Colon → ⊥
number_no_colon symbol number is e = let apart : Number number ≡ Colon = sym is ∙ e in absurd cc

-- the number in range takes the place of the one that leaves
pub range_colons : (front rest : List Symbol) (symbol : Symbol) → symbol.word ≡ Number None → KnowColons (front ++ symbol ∷ rest)
    → KnowColons (front ++ in_range symbol ∷ rest) × (is_colon_next (front ++ in_range symbol ∷ rest) ↔ is_colon_next (front ++ symbol ∷ rest))
range_colons [] rest symbol is colons = (
  (number_knows (in_range symbol) rest (number_word symbol is), colons.1),
  (λ e. absurd (number_no_colon (in_range symbol) (Some one) (number_word symbol is) e), λ e. absurd (number_no_colon symbol None is e)),
)
range_colons (first ∷ front) rest symbol is colons =
    let others = range_colons front rest symbol is colons.1 in (
      (knows_alike first (front ++ symbol ∷ rest) (front ++ in_range symbol ∷ rest) others.1 colons.0, others.0),
      (λ e. e, λ e. e),
    )

pub number_stays : (symbol : Symbol) → symbol.word ≡ Number (Some one) → leaves symbol.word ≡ false
unfolding leaves
number_stays symbol is = ap leaves is

pub behind_last : (state next : State) (front : List Symbol) (symbol : Symbol) → state_behind start front ≡ Some state → next_state state symbol ≡ Some next → state_behind start (front ++ symbol ∷ []) ≡ Some next
behind_last state next front symbol reached moves = state_behind-append start state front (symbol ∷ []) reached ∙ state_behind-step state next symbol [] moves

number_leaves : ReadIsWritten → (state next : State) (front rest : List Symbol) (symbol : Symbol) (draft : Draft) (end : Place) (fault : Unread) → state_behind start front ≡ Some state → AreInRange front
    → KnowColons (front ++ symbol ∷ rest) → next_state state symbol ≡ Some next → leaves symbol.word ≡ true → read state draft (symbol ∷ rest) end ≡ Err fault → IsFirstFault (front ++ symbol ∷ rest) end fault
number_leaves written_is state next front rest symbol draft end fault reached ranges colons moves leaving e =
    let is = leaving_number symbol.word leaving in
    let known = (range_colons front rest symbol is colons).0 in record {
      front = front;
      behind = symbol ∷ rest;
      state = state;
      parts = refl;
      goes_on = goes_on written_is state front (symbol ∷ rest) reached ranges colons;
      reached = reached;
      stops = inl (
        sym (failed_is (unread.Number symbol.place) fault (sym (left state next draft symbol rest end moves leaving) ∙ e)),
        is,
        goes_on written_is next (front ++ in_range symbol ∷ []) rest (behind_last state next front (in_range symbol) reached (next_in_range state symbol ∙ moves))
            (in_range-append front (in_range symbol ∷ []) ranges (number_stays (in_range symbol) (number_word symbol is), tt))
            (subst KnowColons (sym (append_assoc front (in_range symbol ∷ []) rest)) known),
      );
    }

fault_behind : ReadIsWritten → (state : State) (front symbols : List Symbol) (draft : Draft) (end : Place) (fault : Unread) → state_behind start front ≡ Some state → AreInRange front
    → KnowColons (front ++ symbols) → read state draft symbols end ≡ Err fault → IsFirstFault (front ++ symbols) end fault
fault_behind written_is state front [] draft end fault reached ranges colons e = ends_too_early written_is state front draft end fault reached ranges colons e
fault_behind written_is state front (symbol ∷ symbols) draft end fault reached ranges colons e =
    elim (next_cases state symbol) [
      | inl none ↦ may_not_follow written_is state front symbols symbol draft end fault reached ranges colons none e
      | inr some ↦
          elim (cases_Bool (leaves symbol.word)) [
            | inl leaving ↦ number_leaves written_is state some.0 front symbols symbol draft end fault reached ranges colons some.1 leaving e
            | inr stays ↦
                let regrouped = append_assoc front (symbol ∷ []) symbols in
                subst (λ xs. IsFirstFault xs end fault) regrouped
                (fault_behind written_is some.0 (front ++ symbol ∷ []) symbols (noted state.stage state.seen.uncertainty symbol.word symbol.place draft) end fault
                (behind_last state some.0 front symbol reached some.1)
                (in_range-append front (symbol ∷ []) ranges (stays, tt))
                (subst KnowColons (sym regrouped) colons)
                (sym (reads_symbol state some.0 draft symbol symbols some.1 stays end) ∙ e))
          ]
    ]

-- what is not read has its first fault where reading stops
pub first_fault : ReadIsWritten → (names : List (List ℕ)) (symbols : List Symbol) (end : Place) (fault : Unread) → KnowColons symbols
    → read start (empty_draft names) symbols end ≡ Err fault → IsFirstFault symbols end fault
first_fault written_is names symbols end fault colons e = fault_behind written_is start [] symbols (empty_draft names) end fault refl tt colons e

in_range_each : (front : List Symbol) → All (λ symbol. leaves symbol.word ≡ false) front → AreInRange front
in_range_each [] p = tt
in_range_each (symbol ∷ front) p = (p 0 symbol (omega arith), in_range_each front (λ k d q. p (suc k) d (omega arith)))

-- symbols of which each may follow, without a number that leaves, are the beginning of a text
pub accepted_goes_on : ReadIsWritten → (front behind : List Symbol) (state : State) → All (λ symbol. leaves symbol.word ≡ false) front → KnowColons (front ++ behind)
    → state_behind start front ≡ Some state → CanGoOn front
accepted_goes_on written_is front behind state ranges colons reached = goes_on written_is state front behind reached (in_range_each front ranges) colons
