-- What is generated fits a small text: its names, its numbers and its rows.
use Rattle.std.proofs.Common.{◌≡◌, ◌≢◌, ℕ, zero, suc, ◌+◌, ◌-◌, ◌*◌, ◌/◌, ◌%◌, ◌<◌, ◌≤◌, Bool, true, false, not, cond, List, [], ◌∷◌, length, length-append, get_or, map, filter, pos, refl, ap, sym, ◌∙◌, arith, All, AllPairs, eqb}
use Rattle.std.specs.Prelude.{Contains, IsTrue}
use Rattle.std.specs.Char.{is_ascii_alphanumeric, is_ascii_digit}
use Rattle.std.specs.Fmt.{decimal}
use Rattle.std.specs.List.{flat_map, list_all, range_with_len}
use Rattle.std.proofs.lemmas.Bool.{and_parts, false≢true}
use Rattle.std.proofs.lemmas.Bool.Decides.{nat_tests}
use Rattle.std.proofs.lemmas.Fmt.{decimal_injective}
use Rattle.std.proofs.lemmas.List.{get_or-map, length-map}
use Rattle.std.proofs.lemmas.List.Elements.{All-append, All-cons, All-contains_itself, All-filter, All-map, All-nil, filter_passes}
use Rattle.std.proofs.lemmas.List.FromFn.{get_or-map-range_with_len, get_or-range_with_len, length-map-range_with_len, length-range_with_len}
use Rattle.std.proofs.lemmas.List.Sums.{sum_by-le}
use Rattle.qm_math.proofs.Lists.{cons-nonempty}
use Rattle.qm_text.proofs.Slashes.{digits_of_plain}
use Rattle.qm_text.proofs.Written.{whole_written}
use Rattle.qm_small.specs.Names.{AreKnown, AreOver, ListsFit, NamesFit}
use Rattle.qm_small.specs.Spelling.{is_identifier, is_name, is_reserved, reserved}
use Rattle.qm_small.specs.Writable.{HaveShortFactors, IsWritableRow}
use Rattle.qm_small.specs.Written.{WrittenRow, WrittenTerm}
use Rattle.qm_gen.specs.declared.term.Term.{Term}
use Rattle.qm_gen.specs.Draws.{draw, from_place}
use Rattle.qm_gen.specs.Generated.{drawn_row, drawn_rows, drawn_term, existential_variables, factors, generated, is_existential, is_universal, name_of, objective_terms, right_of, row_terms, rows_of, sum_terms, universal_row, universal_variables, variables, written_term}
use Rattle.qm_gen.proofs.Drawn.{row_few, row_small}

pub length-filter-le : {A : Type 0} (test : A → Bool) (xs : List A) → length (filter test xs) ≤ length xs
length-filter-le test [] = omega arith
length-filter-le test (x ∷ xs) =
    let others = length-filter-le test xs in
    elim (test x) as (λ b. length (cond b (x ∷ filter test xs) (filter test xs)) ≤ length (x ∷ xs)) [ true ↦ omega arith | false ↦ omega arith ]

-- ---- names

name_once : (m n : ℕ) → m ≤ 100 → n ≤ 100 → name_of m ≡ name_of n → m ≡ n
name_once m n p q same =
    let digits : decimal m ≡ decimal n = cc in
    decimal_injective m n (omega arith) (omega arith) digits

digit_either : (byte : ℕ) → is_ascii_digit byte ≡ true → is_ascii_alphanumeric byte ≡ true
digit_either byte digit = grind (arith, nat_tests)

digits_either : (bytes : List ℕ) → list_all is_ascii_digit bytes ≡ true → list_all is_ascii_alphanumeric bytes ≡ true
digits_either [] all = refl
digits_either (byte ∷ bytes) all =
    let here = and_parts (is_ascii_digit byte) (list_all is_ascii_digit bytes) all in
    rw (digit_either byte here.0) (digits_either bytes here.1)

is_named : (variable : ℕ) → variable ≤ 100 → IsTrue (is_name (name_of variable))
unfolding is_name is_identifier is_reserved reserved
is_named variable small =
    let spelled = (whole_written (decimal variable) (pos variable) (omega arith)).1 refl in
    let digits = digits_either (decimal variable) (digits_of_plain (decimal variable) spelled.0) in
    rw digits refl

-- numbers of variables that there are
abbrev pub AreVariables : ℕ → List ℕ → Type 0
AreVariables size numbers = All (λ variable. (1 ≤ variable) × (variable ≤ size)) numbers

is_variable : (size k d : ℕ) → k < size → (1 ≤ get_or (range_with_len 1 size) k d) × (get_or (range_with_len 1 size) k d ≤ size)
is_variable size k d inside =
    let at = get_or-range_with_len 1 size k d inside in
    (omega arith, omega arith)

pub are_variables : (size : ℕ) → AreVariables size (variables size)
are_variables size = λ k d below. is_variable size k d (omega (arith, below, length-range_with_len 1 size))

-- a name of each of the variables stands among the names
named : (numbers : List ℕ) → All (λ variable. Contains (map name_of numbers) (name_of variable)) numbers
named numbers = λ k d below. (k, omega (arith, below, length-map numbers name_of), get_or-map name_of numbers k d (name_of (get_or numbers k d)) below)

-- a variable stands among all
among_all : (size variable : ℕ) → 1 ≤ variable → variable ≤ size → Contains (map name_of (variables size)) (name_of variable)
among_all size variable some most =
    let place = variable - 1 in
    (place, omega (arith, length-map-range_with_len name_of 1 size), get_or-map-range_with_len name_of 1 size place variable (name_of variable) (omega arith) (omega arith))

known : (size : ℕ) (numbers : List ℕ) → AreVariables size numbers → AreKnown (map name_of (variables size)) (map name_of numbers)
known size numbers are = All-map (Contains (map name_of (variables size))) name_of numbers (λ k d below. let here = are k d below in among_all size _ here.0 here.1)

once : (size : ℕ) → size ≤ 100 → AllPairs (λ one other. one ≢ other) (map name_of (variables size))
once size few i j d less end same =
    let long : j < size = omega (arith, end, length-map-range_with_len name_of 1 size) in
    let first = get_or-map-range_with_len name_of 1 size i (1 + i) d (omega arith) refl in
    let second = get_or-map-range_with_len name_of 1 size j (1 + j) d long refl in
    let alike = name_once (1 + i) (1 + j) (omega arith) (omega arith) (sym first ∙ same ∙ second) in
    absurd (omega arith)

-- a universal name is no existential one
players_apart : (size : ℕ) → size ≤ 100 → All (λ name. ¬ Contains (map name_of (universal_variables size)) name) (map name_of (existential_variables size))
players_apart size few =
    let universal = universal_variables size in
    let existential = existential_variables size in
    let are_universal = All-filter is_universal (λ v. (1 ≤ v) × (v ≤ size)) (variables size) (are_variables size) in
    let are_existential = All-filter is_existential (λ v. (1 ≤ v) × (v ≤ size)) (variables size) (are_variables size) in
    All-map (λ name. ¬ Contains (map name_of universal) name) name_of existential
    (λ k d below there.
    let one = get_or existential k d in
    let inside : there.0 < length universal = omega (arith, there.1, length-map universal name_of) in
    let other = get_or universal there.0 d in
    let named_so : name_of other ≡ name_of one = sym (get_or-map name_of universal there.0 d (name_of one) inside) ∙ there.2 in
    let other_small = (are_universal there.0 d inside).1 in
    let one_small = (are_existential k d below).1 in
    let same = name_once other one (omega (arith, other_small)) (omega (arith, one_small)) named_so in
    let passes : is_universal other ≡ true = filter_passes is_universal (variables size) there.0 d inside in
    let fails : is_existential one ≡ true = filter_passes is_existential (variables size) k d below in
    false≢true (sym (ap not passes) ∙ ap is_existential same ∙ fails))

-- ---- terms

-- a term of a variable that there is, with a small factor
pub record IsFit (size : ℕ) (term : Term) : Type 0 where
  pub some : 1 ≤ term.variable
  pub most : term.variable ≤ size
  pub factor : term.factor ≤ 9

terms_over : (size : ℕ) (terms : List Term) → All (IsFit size) terms → AreOver (map name_of (variables size)) (map written_term terms)
terms_over size terms fit =
    All-map (λ (term : WrittenTerm). Contains (map name_of (variables size)) term.name) written_term terms (λ k d below. let here = fit k d below in among_all size _ here.some here.most)

terms_short : (size : ℕ) (terms : List Term) → All (IsFit size) terms → HaveShortFactors (map written_term terms)
terms_short size terms fit = All-map (λ (term : WrittenTerm). term.factor < 1000000) written_term terms (λ k d below. let small = (fit k d below).factor in omega arith)

pub objective_fit : (draws : ℕ → ℕ) (size : ℕ) → All (IsFit size) (objective_terms draws size)
objective_fit draws size =
    All-map (IsFit size) (λ place. record { factor = 1 + draws place % 9; variable = place + 1 }) (range_with_len 0 size)
    (λ k d below.
    let inside : k < size = omega (arith, below, length-range_with_len 0 size) in
    let at = get_or-range_with_len 0 size k d inside in
    record { some = omega arith; most = omega arith; factor = omega arith })

drawn_fit : (size drawn place : ℕ) → place < size → All (IsFit size) (drawn_term drawn (place + 1))
drawn_fit size drawn place less =
    let term : Term = record { factor = 1 + drawn / 2 % 5; variable = place + 1 } in
    let fit : IsFit size term = record { some = omega arith; most = omega arith; factor = omega arith } in
    elim (eqb (drawn % 2) 1) as (λ b. All (IsFit size) (cond b (term ∷ []) [])) [ true ↦ All-cons (IsFit size) term [] fit (All-nil (IsFit size)) | false ↦ All-nil (IsFit size) ]

drawn_all_fit : (draws : ℕ → ℕ) (size first count : ℕ) → first + count ≤ size → All (IsFit size) (flat_map (λ place. drawn_term (draws place) (place + 1)) (range_with_len first count))
drawn_all_fit draws size first zero h = All-nil (IsFit size)
drawn_all_fit draws size first (suc count) h =
    All-append (IsFit size) (drawn_term (draws first) (first + 1)) _ (drawn_fit size (draws first) first (omega arith)) (drawn_all_fit draws size (first + 1) count (omega arith))

pub row_fit : (draws : ℕ → ℕ) (size : ℕ) → All (IsFit size) (row_terms draws size)
row_fit draws size = drawn_all_fit draws size 0 size (omega arith)

pub sum_fit : (size : ℕ) (numbers : List ℕ) → AreVariables size numbers → All (IsFit size) (sum_terms numbers)
sum_fit size numbers are =
    All-map (IsFit size) (λ variable. record { factor = 1; variable = variable }) numbers
    (λ k d below. let here = are k d below in let some = here.0 in let most = here.1 in record { some = some; most = most; factor = omega arith })

-- ---- rows

-- a row over variables that there are, which can be written
record IsFitRow (known : List (List ℕ)) (row : WrittenRow) : Type 0 where
  over : AreOver known row.terms
  writable : IsWritableRow row

pub factors_few : (test : ℕ → Bool) (terms : List Term) → length terms ≤ 100 → All (λ term. term.factor ≤ 5) terms → factors test terms ≤ 500
factors_few test terms few small =
    let kept = filter (λ (term : Term). test term.variable) terms in
    let least = All-filter (λ (term : Term). test term.variable) (λ (term : Term). term.factor ≤ 5) terms small in
    let sum = sum_by-le (λ (term : Term). term.factor) 5 kept least in
    let fewer = length-filter-le (λ (term : Term). test term.variable) terms in
    omega arith

rows_fit : (known : List (List ℕ)) (terms : List Term) (right : ℕ) → AreOver known (map written_term terms) → HaveShortFactors (map written_term terms) → right < 1000000 → All (IsFitRow known) (rows_of terms right)
rows_fit known [] right over short small = All-nil (IsFitRow known)
rows_fit known (term ∷ terms) right over short small =
    let row : WrittenRow = record { terms = map written_term (term ∷ terms); right = pos right } in
    All-cons (IsFitRow known) row []
    (record { over = over; writable = record { some = cons-nonempty (written_term term) (map written_term terms); factors = short; right = small } })
    (All-nil (IsFitRow known))

drawn_row_fit : (draws : ℕ → ℕ) (size : ℕ) → size ≤ 100 → All (IsFitRow (map name_of (variables size))) (drawn_row draws size)
drawn_row_fit draws size few =
    let terms = row_terms draws size in
    let fit = row_fit draws size in
    let long : length terms ≤ 100 = omega (arith, row_few draws size) in
    let universal = factors_few is_universal terms long (row_small draws size) in
    let existential = factors_few is_existential terms long (row_small draws size) in
    rows_fit (map name_of (variables size)) terms (right_of terms) (terms_over size terms fit) (terms_short size terms fit) (omega arith)

drawn_rows_fit : (draws : ℕ → ℕ) (size first count : ℕ) → size ≤ 100 → All (IsFitRow (map name_of (variables size))) (flat_map (λ row. drawn_row (from_place (row * size) draws) size) (range_with_len first count))
drawn_rows_fit draws size first zero few = All-nil (IsFitRow (map name_of (variables size)))
drawn_rows_fit draws size first (suc count) few =
    All-append (IsFitRow (map name_of (variables size))) (drawn_row (from_place (first * size) draws) size) _ (drawn_row_fit (from_place (first * size) draws) size few) (drawn_rows_fit draws size (first + 1) count few)

universal_fit : (size : ℕ) → size ≤ 100 → All (IsFitRow (map name_of (universal_variables size))) (universal_row size)
universal_fit size few =
    let numbers = universal_variables size in
    let terms = sum_terms numbers in
    let are = All-filter is_universal (λ v. (1 ≤ v) × (v ≤ size)) (variables size) (are_variables size) in
    let over : AreOver (map name_of numbers) (map written_term terms) =
    All-map (λ (term : WrittenTerm). Contains (map name_of numbers) term.name) written_term terms
    (All-map (λ (term : Term). Contains (map name_of numbers) (name_of term.variable)) (λ variable. record { factor = 1; variable = variable }) numbers (named numbers)) in
    let fewer = length-filter-le is_universal (variables size) in
    rows_fit (map name_of numbers) terms ((length numbers + 1) / 2) over (terms_short size terms (sum_fit size numbers are)) (omega (arith, length-range_with_len 1 size))

-- ---- how many rows there are

pub rows_few : (terms : List Term) (right : ℕ) → length (rows_of terms right) ≤ 1
rows_few [] right = omega arith
rows_few (term ∷ terms) right = omega arith

drawn_rows_few : (draws : ℕ → ℕ) (size first count : ℕ) → length (flat_map (λ row. drawn_row (from_place (row * size) draws) size) (range_with_len first count)) ≤ count
drawn_rows_few draws size first zero = omega arith
drawn_rows_few draws size first (suc count) =
    let row = drawn_row (from_place (first * size) draws) size in
    let one = rows_few (row_terms (from_place (first * size) draws) size) (right_of (row_terms (from_place (first * size) draws) size)) in
    let others = drawn_rows_few draws size (first + 1) count in
    omega (arith, length-append row (flat_map (λ r. drawn_row (from_place (r * size) draws) size) (range_with_len (first + 1) count)))

pub count_few : (draws : ℕ → ℕ) (size : ℕ) → length (drawn_rows draws size size) ≤ size
count_few draws size = drawn_rows_few draws size 0 size

-- ---- all of it

lists_fit : (number size : ℕ) → size ≤ 100 → ListsFit (generated number size)
lists_fit number size few =
    let all = variables size in
    let are = are_variables size in
    record {
      few = omega (arith, length-map-range_with_len name_of 1 size);
      binaries_once = once size few;
      order_once = once size few;
      binaries_ordered = All-contains_itself (map name_of all);
      order_known = All-contains_itself (map name_of all);
      exists_known = known size (existential_variables size) (All-filter is_existential (λ v. (1 ≤ v) × (v ≤ size)) all are);
      universal_known = known size (universal_variables size) (All-filter is_universal (λ v. (1 ≤ v) × (v ≤ size)) all are);
      apart = players_apart size few;
    }

-- all but how long the text is
pub record IsFitting (number size : ℕ) : Type 0 where
  pub names_right : NamesFit (generated number size)
  pub names : All (λ name. IsTrue (is_name name)) (generated number size).binaries
  pub objective : HaveShortFactors (generated number size).objective
  pub rows : All IsWritableRow (generated number size).rows
  pub uncertain : All IsWritableRow (generated number size).uncertain

pub fitting : (number size : ℕ) → size ≤ 100 → IsFitting number size
fitting number size few =
    let draws = from_place size (draw number) in
    let objective = objective_fit (draw number) size in
    let rows = drawn_rows_fit draws size 0 size few in
    let uncertain = universal_fit size few in
    let one = rows_few (sum_terms (universal_variables size)) ((length (universal_variables size) + 1) / 2) in
    let many = count_few draws size in
    record {
      names_right = record {
        lists = lists_fit number size few;
        objective_known = terms_over size (objective_terms (draw number) size) objective;
        rows_known = λ k d below. (rows k d below).over;
        uncertain_known = λ k d below. (uncertain k d below).over;
        few_rows = omega arith;
      };
      names = All-map (λ name. IsTrue (is_name name)) name_of (variables size) (λ k d below. let here = (are_variables size k d below).1 in is_named _ (omega arith));
      objective = terms_short size (objective_terms (draw number) size) objective;
      rows = λ k d below. (rows k d below).writable;
      uncertain = λ k d below. (uncertain k d below).writable;
    }
