-- What the text of a number and a size says.
use Rattle.std.specs.Prelude.{ℕ, pos, ◌+◌, ◌*◌, ◌/◌, ◌%◌, Bool, false, not, ◌==◌, List, [], ◌∷◌, length, map, filter, sum_by, if◌then◌else◌}
use Rattle.std.specs.Fmt.{decimal}
use Rattle.std.specs.List.{flat_map, range_with_len}
use Rattle.qm_model.specs.declared.game.Problem.{Problem}
use Rattle.qm_small.specs.Lines.{text_of}
use Rattle.qm_small.specs.Problems.{problem_of}
use Rattle.qm_small.specs.Written.{Written, WrittenRow, WrittenTerm}
use Rattle.qm_gen.specs.declared.term.Term.{Term}
use Rattle.qm_gen.specs.Draws.{draw, from_place}

-- the name of a variable: x and its number, the first of which is 1
abbrev pub name_of : ℕ → List ℕ
name_of variable = 120 ∷ decimal variable

-- every third variable is universal
abbrev pub is_universal : ℕ → Bool
is_universal variable = variable % 3 == 0

abbrev pub is_existential : ℕ → Bool
is_existential variable = not (is_universal variable)

-- the numbers of so many variables
abbrev pub variables : ℕ → List ℕ
variables size = range_with_len 1 size

-- the objective: a draw for each variable
abbrev pub objective_terms : (ℕ → ℕ) → ℕ → List Term
objective_terms draws size = map (λ place. record { factor = 1 + draws place % 9; variable = place + 1 }) (range_with_len 0 size)

-- what a draw puts into a row for a variable: nothing where it is even
abbrev pub drawn_term : ℕ → ℕ → List Term
drawn_term drawn variable = if drawn % 2 == 1 then record { factor = 1 + drawn / 2 % 5; variable = variable } ∷ [] else []

-- the terms of a row: a draw for each variable
abbrev pub row_terms : (ℕ → ℕ) → ℕ → List Term
row_terms draws size = flat_map (λ place. drawn_term (draws place) (place + 1)) (range_with_len 0 size)

-- the sum of the factors of those variables that the test accepts
abbrev pub factors : (ℕ → Bool) → List Term → ℕ
factors test terms = sum_by (λ term. term.factor) (filter (λ term. test term.variable) terms)

-- the universal factors, and half of the existential ones, rounded down
abbrev pub right_of : List Term → ℕ
right_of terms = factors is_universal terms + factors is_existential terms / 2

abbrev pub written_term : Term → WrittenTerm
written_term term = record { negative = false; factor = term.factor; name = name_of term.variable }

-- a row of these terms and this right side; none where there are no terms
abbrev pub rows_of : List Term → ℕ → List WrittenRow
rows_of [] right = []
rows_of (term ∷ terms) right = record { terms = map written_term (term ∷ terms); right = pos right } ∷ []

-- the row that draws make
abbrev pub drawn_row : (ℕ → ℕ) → ℕ → List WrittenRow
drawn_row draws size = rows_of (row_terms draws size) (right_of (row_terms draws size))

-- so many rows, with a draw for each variable of each of them
abbrev pub drawn_rows : (ℕ → ℕ) → ℕ → ℕ → List WrittenRow
drawn_rows draws size count = flat_map (λ row. drawn_row (from_place (row * size) draws) size) (range_with_len 0 count)

-- the sum of variables
abbrev pub sum_terms : List ℕ → List Term
sum_terms numbers = map (λ variable. record { factor = 1; variable = variable }) numbers

-- the numbers of the universal variables, and of the existential ones
abbrev pub universal_variables : ℕ → List ℕ
universal_variables size = filter is_universal (variables size)

abbrev pub existential_variables : ℕ → List ℕ
existential_variables size = filter is_existential (variables size)

-- the universal variables are at most half of their number, rounded up
abbrev pub universal_row : ℕ → List WrittenRow
universal_row size = rows_of (sum_terms (universal_variables size)) ((length (universal_variables size) + 1) / 2)

-- all that the text says: the objective is drawn first, then row by row
abbrev pub generated : ℕ → ℕ → Written
generated number size = record {
  objective = map written_term (objective_terms (draw number) size);
  rows = drawn_rows (from_place size (draw number)) size size;
  uncertain = universal_row size;
  binaries = map name_of (variables size);
  exists = map name_of (existential_variables size);
  universal = map name_of (universal_variables size);
  order = map name_of (variables size);
}

-- the bytes of the text
abbrev pub generated_text : ℕ → ℕ → List ℕ
generated_text number size = text_of (generated number size)

-- the problem that it states
abbrev pub generated_problem : ℕ → ℕ → Problem
generated_problem number size = problem_of (generated number size)
