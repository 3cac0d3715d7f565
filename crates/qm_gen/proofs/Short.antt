-- How long the text is at most.
use Rattle.std.proofs.Common.{◌≡◌, ℕ, zero, suc, ◌+◌, ◌*◌, ◌/◌, ◌%◌, ◌<◌, ◌≤◌, Bool, List, [], ◌∷◌, ◌++◌, length, length-append, map, filter, lit<, ap, arith, All}
use Rattle.std.specs.Prelude.{codes}
use Rattle.std.specs.Fmt.{decimal}
use Rattle.std.specs.List.{flat_map, range_with_len}
use Rattle.std.proofs.lemmas.Fmt.{length-decimal-le}
use Rattle.std.proofs.lemmas.List.{length-map}
use Rattle.std.proofs.lemmas.List.Concat.{length-flat_map}
use Rattle.std.proofs.lemmas.List.Elements.{All-filter, All-head, All-tail}
use Rattle.std.proofs.lemmas.List.FromFn.{length-map-range_with_len, length-range_with_len}
use Rattle.std.proofs.lemmas.List.Sums.{sum_by-le}
use Rattle.qm_small.specs.Lines.{lines_text, list_lines, names_lines, optional_lines, row_words, rows_heading, spaced, terms_words, uncertain_lines}
use Rattle.qm_small.specs.Writable.{IsWritable}
use Rattle.qm_small.specs.Written.{WrittenRow}
use Rattle.qm_gen.specs.declared.term.Term.{Term}
use Rattle.qm_gen.specs.Draws.{draw, from_place}
use Rattle.qm_gen.specs.Generated.{drawn_row, existential_variables, generated, generated_text, is_existential, is_universal, name_of, objective_terms, right_of, row_terms, rows_of, sum_terms, universal_row, universal_variables, variables}
use Rattle.qm_gen.specs.WritingSteps.{more_text, rows_text, term_text, terms_text}
use Rattle.qm_gen.proofs.Appended.{lists-parts, names-cons, names_text, rows_text-append, rows_text-of, terms_text-cons, text-parts}
use Rattle.qm_gen.proofs.Drawn.{row_few, row_small}
use Rattle.qm_gen.proofs.Fits.{IsFit, are_variables, factors_few, fitting, length-filter-le, objective_fit, row_fit, sum_fit}

-- pieces of so many bytes at most
flat_map_short : {A : Type 0} (f : A → List ℕ) (most : ℕ) (xs : List A) → All (λ x. length (f x) ≤ most) xs → length (flat_map f xs) ≤ length xs * most
flat_map_short f most xs all = omega (arith, length-flat_map f xs, sum_by-le (λ x. length (f x)) most xs all)

name_short : (variable : ℕ) → variable ≤ 100 → length (name_of variable) ≤ 4
name_short variable few = omega (arith, length-decimal-le 3 variable (lit< tt) (omega arith) (omega arith))

-- ---- terms and rows

term_short : (size : ℕ) (term : Term) → size ≤ 100 → IsFit size term → length (term_text term) ≤ 8
term_short size term few fit =
    let small = fit.factor in
    let most = fit.most in
    let digits = length-decimal-le 3 term.factor (lit< tt) (omega arith) (omega arith) in
    let name = name_short term.variable (omega arith) in
    omega (arith, length-append (decimal term.factor) (32 ∷ name_of term.variable))

terms_short : (size : ℕ) (terms : List Term) → size ≤ 100 → All (IsFit size) terms → length (terms_text terms) ≤ length terms * 11
terms_short size [] few fit = omega arith
terms_short size (term ∷ terms) few fit =
    let first = term_short size term few (All-head (IsFit size) term terms fit) in
    let rest = All-tail (IsFit size) term terms fit in
    let others = flat_map_short more_text 11 terms (λ k d below. let one = term_short size _ few (rest k d below) in omega arith) in
    omega (arith, ap (length {A = ℕ}) (terms_text-cons term terms), length-append (term_text term) (flat_map more_text terms))

row_short : (size : ℕ) (terms : List Term) (right : ℕ) → size ≤ 100 → All (IsFit size) terms → length terms ≤ 100 → right < 1000000 → length (rows_text (rows_of terms right)) ≤ 1111
row_short size [] right few fit long small = omega arith
row_short size (term ∷ terms) right few fit long small =
    let front = terms_text (term ∷ terms) in
    let bytes = terms_short size (term ∷ terms) few fit in
    let digits = length-decimal-le 6 right (lit< tt) small (omega arith) in
    omega (arith, ap (length {A = ℕ}) (rows_text-of term terms right), length-append ((front ++ codes " <= ") ++ decimal right) (10 ∷ []), length-append (front ++ codes " <= ") (decimal right), length-append front (codes " <= "))

drawn_short : (draws : ℕ → ℕ) (size : ℕ) → size ≤ 100 → length (rows_text (drawn_row draws size)) ≤ 1111
drawn_short draws size few =
    let terms = row_terms draws size in
    let long : length terms ≤ 100 = omega (arith, row_few draws size) in
    let universal = factors_few is_universal terms long (row_small draws size) in
    let existential = factors_few is_existential terms long (row_small draws size) in
    row_short size terms (right_of terms) few (row_fit draws size) long (omega arith)

drawn_rows_short : (draws : ℕ → ℕ) (size first count : ℕ) → size ≤ 100 → length (rows_text (flat_map (λ row. drawn_row (from_place (row * size) draws) size) (range_with_len first count))) ≤ count * 1111
drawn_rows_short draws size first zero few = omega arith
drawn_rows_short draws size first (suc count) few =
    let row = drawn_row (from_place (first * size) draws) size in
    let rows = flat_map (λ r. drawn_row (from_place (r * size) draws) size) (range_with_len (first + 1) count) in
    let one = drawn_short (from_place (first * size) draws) size few in
    let others = drawn_rows_short draws size (first + 1) count few in
    omega (arith, ap (length {A = ℕ}) (rows_text-append row rows), length-append (rows_text row) (rows_text rows))

uncertain_short : (rows : List WrittenRow) → length (lines_text (uncertain_lines rows)) ≤ 23 + length (rows_text rows)
uncertain_short [] = omega arith
uncertain_short (row ∷ rows) = omega arith

universal_short : (size : ℕ) → size ≤ 100 → length (rows_text (universal_row size)) ≤ 1111
universal_short size few =
    let numbers = universal_variables size in
    let terms = sum_terms numbers in
    let are = All-filter is_universal (λ v. (1 ≤ v) × (v ≤ size)) (variables size) (are_variables size) in
    let fewer : length numbers ≤ 100 = omega (arith, length-filter-le is_universal (variables size), length-range_with_len 1 size) in
    row_short size terms ((length numbers + 1) / 2) few (sum_fit size numbers are) (omega (arith, length-map {B = Term} numbers (λ (variable : ℕ). record { factor = 1; variable = variable }))) (omega arith)

-- ---- names

names_short : (numbers : List ℕ) → All (λ variable. variable ≤ 100) numbers → length (spaced (map name_of numbers)) ≤ length numbers * 5
names_short [] small = omega arith
names_short (variable ∷ numbers) small =
    let first = name_short variable (All-head (λ (v : ℕ). v ≤ 100) variable numbers small) in
    let rest = All-tail (λ (v : ℕ). v ≤ 100) variable numbers small in
    let others = flat_map_short (λ (other : ℕ). 32 ∷ name_of other) 5 numbers (λ k d below. let one = name_short _ (rest k d below) in omega arith) in
    omega (arith, ap (length {A = ℕ}) (names-cons variable numbers), length-append (name_of variable) (flat_map (λ other. 32 ∷ name_of other) numbers))

-- few variables with small numbers
record AreFew (numbers : List ℕ) : Type 0 where
  small : All (λ variable. variable ≤ 100) numbers
  few : length numbers ≤ 100

section_short : (heading numbers : List ℕ) → length heading ≤ 8 → AreFew numbers → length (lines_text (names_lines heading (map name_of numbers))) ≤ 510
section_short heading numbers short are =
    let names = spaced (map name_of numbers) in
    let few = are.few in
    let bytes = names_short numbers are.small in
    omega (arith, ap (length {A = ℕ}) (names_text heading (map name_of numbers)), length-append (heading ++ 10 ∷ []) (names ++ 10 ∷ []), length-append heading (10 ∷ []), length-append names (10 ∷ []))

optional_short : (heading numbers : List ℕ) → length heading ≤ 8 → AreFew numbers → length (lines_text (optional_lines heading (map name_of numbers))) ≤ 510
optional_short heading [] short are = omega arith
optional_short heading (variable ∷ numbers) short are = section_short heading (variable ∷ numbers) short are

all_few : (size : ℕ) → size ≤ 100 → AreFew (variables size)
all_few size few = record { small = λ k d below. let most = (are_variables size k d below).1 in omega arith; few = omega (arith, length-range_with_len 1 size) }

some_few : (test : ℕ → Bool) (numbers : List ℕ) → AreFew numbers → AreFew (filter test numbers)
some_few test numbers are =
    let few = are.few in
    record { small = All-filter test (λ (v : ℕ). v ≤ 100) numbers are.small; few = omega (arith, length-filter-le test numbers) }

lists_short : (number size : ℕ) → size ≤ 100 → length (lines_text (list_lines (generated number size))) ≤ 2044
lists_short number size few =
    let everyone = variables size in
    let existential = existential_variables size in
    let universal = universal_variables size in
    let all = all_few size few in
    let binaries = lines_text (names_lines (codes "BINARIES") (map name_of everyone)) in
    let exists = lines_text (optional_lines (codes "EXISTS") (map name_of existential)) in
    let alls = lines_text (optional_lines (codes "ALL") (map name_of universal)) in
    let order = lines_text (names_lines (codes "ORDER") (map name_of everyone)) in
    let one = section_short (codes "BINARIES") everyone (omega arith) all in
    let two = optional_short (codes "EXISTS") existential (omega arith) (some_few is_existential everyone all) in
    let three = optional_short (codes "ALL") universal (omega arith) (some_few is_universal everyone all) in
    let four = section_short (codes "ORDER") everyone (omega arith) all in
    omega (arith, ap (length {A = ℕ}) (lists-parts everyone existential universal), length-append (((binaries ++ exists) ++ alls) ++ order) (codes "END" ++ 10 ∷ []), length-append ((binaries ++ exists) ++ alls) order, length-append (binaries ++ exists) alls, length-append binaries exists)

-- ---- the whole text

text_short : (number size : ℕ) → size ≤ 100 → length (generated_text number size) ≤ 4194304
text_short number size few =
    let written = generated number size in
    let draws = from_place size (draw number) in
    let objective = terms_short size (objective_terms (draw number) size) few (objective_fit (draw number) size) in
    let count : length (objective_terms (draw number) size) ≡ size = length-map-range_with_len {X = Term} (λ (place : ℕ). record { factor = 1 + draw number place % 9; variable = place + 1 }) 0 size in
    let rows = drawn_rows_short draws size 0 size few in
    let universal = universal_short size few in
    let below = uncertain_short (universal_row size) in
    let lists = lists_short number size few in
    let front = lines_text ((codes "MAXIMIZE" ∷ []) ∷ terms_words written.objective ∷ []) in
    let middle = lines_text (rows_heading ∷ map row_words written.rows) in
    let uncertain = lines_text (uncertain_lines written.uncertain) in
    let last = lines_text (list_lines written) in
    let head : length front ≤ 10 + length (terms_text (objective_terms (draw number) size)) = omega (arith, length-append (terms_text (objective_terms (draw number) size)) (10 ∷ []), length-append (terms_text (objective_terms (draw number) size) ++ 10 ∷ []) []) in
    omega (arith, ap (length {A = ℕ}) (text-parts written), length-append ((front ++ middle) ++ uncertain) last, length-append (front ++ middle) uncertain, length-append front middle)

-- what is generated can be written as a small text
pub writable : (number size : ℕ) → size ≤ 100 → IsWritable (generated number size)
writable number size few =
    let fit = fitting number size few in
    record {
      names_right = fit.names_right;
      names = fit.names;
      objective = fit.objective;
      rows = fit.rows;
      uncertain = fit.uncertain;
      short = text_short number size few;
    }
