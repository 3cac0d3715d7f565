-- What parts of a text's writer append. No public clause cites this.
use Rattle.std.specs.Prelude.{ℕ, Bool, true, List, [], ◌∷◌, ◌++◌, map, codes}
use Rattle.std.specs.Fmt.{decimal}
use Rattle.qm_small.specs.Lines.{Line, lines_text, names_lines, optional_lines, row_words, spaced, terms_words}
use Rattle.qm_small.specs.Written.{WrittenRow}
use Rattle.qm_gen.specs.declared.lists.Group.{Group}
use Rattle.qm_gen.specs.declared.lists.Group.TheVariants.{Everyone, Existential, Universal}
use Rattle.qm_gen.specs.declared.term.Term.{Term}
use Rattle.qm_gen.specs.Generated.{is_existential, is_universal, name_of, written_term}

-- the variable is of the group
abbrev pub is_in : Group → ℕ → Bool
is_in Everyone variable = true
is_in Existential variable = is_existential variable
is_in Universal variable = is_universal variable

abbrev pub term_text : Term → List ℕ
term_text term = decimal term.factor ++ 32 ∷ name_of term.variable

-- a term with its sign before it
abbrev pub more_text : Term → List ℕ
more_text term = codes " + " ++ term_text term

abbrev pub terms_text : List Term → List ℕ
terms_text terms = spaced (terms_words (map written_term terms))

abbrev pub rows_text : List WrittenRow → List ℕ
rows_text rows = lines_text (map row_words rows)

-- the lists of names of all variables, of the existential and of the universal ones, and the end
abbrev pub lists_of : List ℕ → List ℕ → List ℕ → List Line
lists_of everyone existential universal =
    names_lines (codes "BINARIES") (map name_of everyone)
    ++ (optional_lines (codes "EXISTS") (map name_of existential)
    ++ (optional_lines (codes "ALL") (map name_of universal)
    ++ (names_lines (codes "ORDER") (map name_of everyone) ++ (codes "END" ∷ []) ∷ [])))
