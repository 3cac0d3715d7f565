-- Draws, and what is made of them place by place.
use Rattle.std.proofs.Common.{◌≡◌, ℕ, zero, suc, ◌+◌, ◌*◌, ◌/◌, ◌%◌, ◌≤◌, Bool, true, false, cond, eqb, List, [], ◌∷◌, ◌++◌, length, map, filter, refl, ap, sym, ◌∙◌, arith, All}
use Rattle.std.specs.Prelude.{codes}
use Rattle.std.specs.List.{flat_map, range_with_len}
use Rattle.std.proofs.lemmas.List.{append-nil, append_assoc, length-append, map-id}
use Rattle.std.proofs.lemmas.List.Concat.{flat_map-append}
use Rattle.std.proofs.lemmas.List.Elements.{All-append, All-cons, All-nil, filter-append}
use Rattle.std.proofs.lemmas.List.FromFn.{map-range_with_len_more}
use Rattle.qm_small.specs.Lines.{lines_text, row_words, rows_heading}
use Rattle.qm_small.specs.Written.{WrittenRow}
use Rattle.qm_gen.specs.declared.term.Term.{Term}
use Rattle.qm_gen.specs.Draws.{draw, from_place, next_state, state_behind}
use Rattle.qm_gen.specs.WritingSteps.{rows_text}
use Rattle.qm_gen.proofs.Appended.{rows_text-append, wrote}
use Rattle.qm_gen.specs.Generated.{drawn_row, drawn_rows, drawn_term, factors, is_existential, is_universal, objective_terms, row_terms, variables}

-- ---- states

pub state_behind-zero : (number : ℕ) → state_behind number 0 ≡ number
unfolding state_behind
state_behind-zero number = refl

pub state_behind-suc : (number count : ℕ) → state_behind number (suc count) ≡ next_state (state_behind number count)
unfolding state_behind
state_behind-suc number count = refl

pub state_behind-more : (number count : ℕ) → state_behind number (count + 1) ≡ next_state (state_behind number count)
state_behind-more number count = ap (state_behind number) (let e : count + 1 ≡ suc count = omega arith in e) ∙ state_behind-suc number count

pub state_behind-add : (number first count : ℕ) → state_behind (state_behind number first) count ≡ state_behind number (first + count)
state_behind-add number first zero = state_behind-zero (state_behind number first) ∙ ap (state_behind number) (let e : first ≡ first + 0 = omega arith in e)
state_behind-add number first (suc count) =
    state_behind-suc (state_behind number first) count
    ∙ ap next_state (state_behind-add number first count)
    ∙ sym (state_behind-suc number (first + count))
    ∙ ap (state_behind number) (let e : suc (first + count) ≡ first + suc count = omega arith in e)

-- what is drawn from the state behind so many draws are the draws from that place on
pub draw_behind : (number first : ℕ) → draw (state_behind number first) ≡ from_place first (draw number)
draw_behind number first =
    let at : (place : ℕ) → draw (state_behind number first) place ≡ draw number (first + place) =
    λ place. ap (λ state. state / 65536) (state_behind-add number first (suc place) ∙ ap (state_behind number) (let e : first + suc place ≡ suc (first + place) = omega arith in e)) in
    λ i place. at place i

-- ---- one more

pub range-more : (first count : ℕ) → range_with_len first (count + 1) ≡ range_with_len first count ++ (first + count) ∷ []
range-more first count =
    sym (map-id (range_with_len first (count + 1)))
    ∙ map-range_with_len_more (λ (n : ℕ). n) first count (first + count) refl
    ∙ ap (λ (ns : List ℕ). ns ++ (first + count) ∷ []) (map-id (range_with_len first count))

flat_map-range : {A : Type 0} (f : ℕ → List A) (first count : ℕ) → flat_map f (range_with_len first (count + 1)) ≡ flat_map f (range_with_len first count) ++ f (first + count)
flat_map-range f first count =
    ap (flat_map f) (range-more first count)
    ∙ flat_map-append f (range_with_len first count) ((first + count) ∷ [])
    ∙ ap (λ (xs : List _). flat_map f (range_with_len first count) ++ xs) (append-nil (f (first + count)))

from_zero : (n : ℕ) → 0 + n ≡ n
from_zero n = omega arith

pub objective-more : (draws : ℕ → ℕ) (place : ℕ) → objective_terms draws (place + 1) ≡ objective_terms draws place ++ record { factor = 1 + draws place % 9; variable = place + 1 } ∷ []
objective-more draws place = map-range_with_len_more (λ (n : ℕ). record { factor = 1 + draws n % 9; variable = n + 1 }) 0 place place (from_zero place)

pub row-more : (draws : ℕ → ℕ) (place : ℕ) → row_terms draws (place + 1) ≡ row_terms draws place ++ drawn_term (draws place) (place + 1)
row-more draws place =
    flat_map-range (λ n. drawn_term (draws n) (n + 1)) 0 place ∙ ap (λ n. row_terms draws place ++ drawn_term (draws n) (n + 1)) (from_zero place)

pub rows-more : (draws : ℕ → ℕ) (size row : ℕ) → drawn_rows draws size (row + 1) ≡ drawn_rows draws size row ++ drawn_row (from_place (row * size) draws) size
rows-more draws size row =
    flat_map-range (λ n. drawn_row (from_place (n * size) draws) size) 0 row ∙ ap (λ n. drawn_rows draws size row ++ drawn_row (from_place (n * size) draws) size) (from_zero row)

pub filter-range : (test : ℕ → Bool) (first count : ℕ) → filter test (range_with_len first (count + 1)) ≡ filter test (range_with_len first count) ++ cond (test (first + count)) ((first + count) ∷ []) []
filter-range test first count =
    ap (filter test) (range-more first count) ∙ filter-append test (range_with_len first count) ((first + count) ∷ [])

-- ---- how many terms a row has, and how large they are

pub drawn_few : (drawn variable : ℕ) → length (drawn_term drawn variable) ≤ 1
drawn_few drawn variable =
    let term : Term = record { factor = 1 + drawn / 2 % 5; variable = variable } in
    elim (eqb (drawn % 2) 1) as (λ b. length (cond b (term ∷ []) []) ≤ 1) [ true ↦ omega arith | false ↦ omega arith ]

abbrev IsSmall : Term → Type 0
IsSmall term = term.factor ≤ 5

pub drawn_small : (drawn variable : ℕ) → All (λ term. term.factor ≤ 5) (drawn_term drawn variable)
drawn_small drawn variable =
    let term : Term = record { factor = 1 + drawn / 2 % 5; variable = variable } in
    elim (eqb (drawn % 2) 1) as (λ b. All IsSmall (cond b (term ∷ []) [])) [ true ↦ All-cons IsSmall term [] (omega arith) (All-nil IsSmall) | false ↦ All-nil IsSmall ]

abbrev terms_from : (ℕ → ℕ) → ℕ → ℕ → List Term
terms_from draws first count = flat_map (λ place. drawn_term (draws place) (place + 1)) (range_with_len first count)

terms_few : (draws : ℕ → ℕ) (first count : ℕ) → length (terms_from draws first count) ≤ count
terms_few draws first zero = omega arith
terms_few draws first (suc count) =
    let one = drawn_few (draws first) (first + 1) in
    let others = terms_few draws (first + 1) count in
    omega (arith, length-append (drawn_term (draws first) (first + 1)) (terms_from draws (first + 1) count))

pub row_few : (draws : ℕ → ℕ) (size : ℕ) → length (row_terms draws size) ≤ size
row_few draws size = terms_few draws 0 size

terms_small : (draws : ℕ → ℕ) (first count : ℕ) → All (λ term. term.factor ≤ 5) (terms_from draws first count)
terms_small draws first zero = All-nil IsSmall
terms_small draws first (suc count) =
    All-append IsSmall (drawn_term (draws first) (first + 1)) (terms_from draws (first + 1) count) (drawn_small (draws first) (first + 1)) (terms_small draws (first + 1) count)

pub row_small : (draws : ℕ → ℕ) (size : ℕ) → All (λ term. term.factor ≤ 5) (row_terms draws size)
row_small draws size = terms_small draws 0 size

-- ---- loops

-- these terms are made of the draws from a state on, up to this place, and this state is behind those draws
pub record Drew (made : (ℕ → ℕ) → ℕ → List Term) (start place : ℕ) (terms : List Term) (state : ℕ) : Type 0 where
  pub terms_are : terms ≡ made (draw start) place
  pub state_is : state ≡ state_behind start place

-- the sums of the factors of so many terms
pub record Summed (terms : List Term) (count universal existential : ℕ) : Type 0 where
  pub universal_is : universal ≡ factors is_universal terms
  pub existential_is : existential ≡ factors is_existential terms
  pub universal_few : universal ≤ count * 5
  pub existential_few : existential ≤ count * 5

-- these bytes are written of so many rows, and this state is behind their draws
pub record WroteRows (start size rows : ℕ) (before out : List ℕ) (state : ℕ) : Type 0 where
  pub bytes : out ≡ before ++ rows_text (drawn_rows (draw start) size rows)
  pub state_is : state ≡ state_behind start (rows * size)

-- the draw behind a state
drawn_next : (start place state : ℕ) → state ≡ state_behind start place → next_state state / 65536 ≡ draw start place
drawn_next start place state is = ap (λ s. s / 65536) (ap next_state is ∙ sym (state_behind-suc start place))

pub objective_step : (start place : ℕ) (terms after : List Term) (state next drawn : ℕ) → Drew objective_terms start place terms state → next ≡ next_state state → drawn ≡ next / 65536
    → after ≡ terms ++ record { factor = 1 + drawn % 9; variable = place + 1 } ∷ [] → Drew objective_terms start (place + 1) after next
objective_step start place terms after state next drawn was next_is drawn_is after_is =
    let same : drawn ≡ draw start place = drawn_is ∙ ap (λ s. s / 65536) next_is ∙ drawn_next start place state was.state_is in
    record {
      terms_are =
          after_is
          ∙ ap (λ (ts : List Term). ts ++ record { factor = 1 + drawn % 9; variable = place + 1 } ∷ []) was.terms_are
          ∙ ap (λ d. objective_terms (draw start) place ++ record { factor = 1 + d % 9; variable = place + 1 } ∷ []) same
          ∙ sym (objective-more (draw start) place);
      state_is = next_is ∙ ap next_state was.state_is ∙ sym (state_behind-more start place);
    }

pub row_step : (start place : ℕ) (terms after : List Term) (state next drawn : ℕ) → Drew row_terms start place terms state → next ≡ next_state state → drawn ≡ next / 65536
    → after ≡ terms ++ drawn_term drawn (place + 1) → Drew row_terms start (place + 1) after next
row_step start place terms after state next drawn was next_is drawn_is after_is =
    let same : drawn ≡ draw start place = drawn_is ∙ ap (λ s. s / 65536) next_is ∙ drawn_next start place state was.state_is in
    record {
      terms_are =
          after_is
          ∙ ap (λ (ts : List Term). ts ++ drawn_term drawn (place + 1)) was.terms_are
          ∙ ap (λ d. row_terms (draw start) place ++ drawn_term d (place + 1)) same
          ∙ sym (row-more (draw start) place);
      state_is = next_is ∙ ap next_state was.state_is ∙ sym (state_behind-more start place);
    }

-- one variable more of a group
pub members_step : (test : ℕ → Bool) (place : ℕ) (numbers after : List ℕ) → numbers ≡ filter test (variables place) → after ≡ numbers ++ cond (test (place + 1)) ((place + 1) ∷ []) [] → after ≡ filter test (variables (place + 1))
members_step test place numbers after are after_is =
    let number : place + 1 ≡ 1 + place = omega arith in
    after_is
    ∙ ap (λ (ns : List ℕ). ns ++ cond (test (place + 1)) ((place + 1) ∷ []) []) are
    ∙ ap (λ n. filter test (variables place) ++ cond (test n) (n ∷ []) []) number
    ∙ sym (filter-range test 1 place)

pub rows_step : (start size row : ℕ) (before out after : List ℕ) (state next : ℕ) → WroteRows start size row before out state → after ≡ out ++ rows_text (drawn_row (draw state) size) → next ≡ state_behind state size
    → WroteRows start size (row + 1) before after next
rows_step start size row before out after state next was after_is next_is =
    let rows = drawn_rows (draw start) size row in
    let more = drawn_row (from_place (row * size) (draw start)) size in
    let same : draw state ≡ from_place (row * size) (draw start) = ap draw was.state_is ∙ draw_behind start (row * size) in
    record {
      bytes =
          after_is
          ∙ ap (λ (t : List ℕ). t ++ rows_text (drawn_row (draw state) size)) was.bytes
          ∙ append_assoc before (rows_text rows) (rows_text (drawn_row (draw state) size))
          ∙ ap (λ (d : ℕ → ℕ). before ++ (rows_text rows ++ rows_text (drawn_row d size))) same
          ∙ ap (λ (t : List ℕ). before ++ t) (sym (rows_text-append rows more))
          ∙ ap (λ (rs : List WrittenRow). before ++ rows_text rs) (sym (rows-more (draw start) size row));
      state_is =
          next_is
          ∙ ap (λ s. state_behind s size) was.state_is
          ∙ state_behind-add start (row * size) size
          ∙ ap (state_behind start) (let e : row * size + size ≡ (row + 1) * size = omega arith in e);
    }

pub rows_start : (start size : ℕ) (out : List ℕ) → WroteRows start size 0 out out start
rows_start start size out = record {
  bytes = sym (append-nil out);
  state_is = sym (state_behind-zero start) ∙ ap (state_behind start) (let e : 0 ≡ 0 * size = omega arith in e);
}

pub rows_end : (start size rows : ℕ) (old before out : List ℕ) (state : ℕ) → WroteRows start size rows before out state → rows ≡ size → before ≡ old ++ (codes "SUBJECT TO" ++ 10 ∷ [])
    → out ≡ old ++ lines_text (rows_heading ∷ map row_words (drawn_rows (draw start) size size))
rows_end start size rows old before out state was all heading =
    wrote old before out (codes "SUBJECT TO" ++ 10 ∷ []) (rows_text (drawn_rows (draw start) size size)) (lines_text (rows_heading ∷ map row_words (drawn_rows (draw start) size size))) heading
    (was.bytes ∙ ap (λ n. before ++ rows_text (drawn_rows (draw start) size n)) all)
    refl
