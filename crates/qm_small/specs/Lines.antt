-- The text of what is written, by lines.
use Rattle.std.specs.Prelude.{ℕ, suc, ℤ, pos, negsuc, Bool, true, false, List, [], ◌∷◌, ◌++◌, map, codes}
use Rattle.std.specs.Fmt.{decimal}
use Rattle.std.specs.List.{flat_map}
use Rattle.qm_small.specs.Written.{Written, WrittenRow, WrittenTerm}

-- a line, by its words
abbrev pub Line : Type 0
Line = List (List ℕ)

-- words with one space between
abbrev pub spaced : Line → List ℕ
spaced [] = []
spaced (word ∷ words) = word ++ flat_map (λ other. 32 ∷ other) words

-- the bytes of lines, an LF behind each
abbrev pub lines_text : List Line → List ℕ
lines_text lines = flat_map (λ line. spaced line ++ 10 ∷ []) lines

-- a minus, or a plus where the term isn't the first
abbrev pub sign_words : Bool → Bool → Line
sign_words is_first true = codes "-" ∷ []
sign_words true false = []
sign_words false false = codes "+" ∷ []

-- a term, with its factor also where that is 1
abbrev pub term_words : Bool → WrittenTerm → Line
term_words is_first term = sign_words is_first term.negative ++ decimal term.factor ∷ term.name ∷ []

abbrev pub terms_words : List WrittenTerm → Line
terms_words [] = []
terms_words (term ∷ terms) = term_words true term ++ flat_map (term_words false) terms

abbrev pub right_words : ℤ → Line
right_words (pos n) = decimal n ∷ []
right_words (negsuc n) = codes "-" ∷ decimal (suc n) ∷ []

abbrev pub row_words : WrittenRow → Line
row_words row = terms_words row.terms ++ codes "<=" ∷ right_words row.right

-- a heading with two words
abbrev pub rows_heading : Line
rows_heading = codes "SUBJECT" ∷ codes "TO" ∷ []

-- the heading and the rows, where there are any
abbrev pub uncertain_lines : List WrittenRow → List Line
uncertain_lines [] = []
uncertain_lines (row ∷ rows) = (codes "UNCERTAINTY" ∷ rows_heading) ∷ row_words row ∷ map row_words rows

-- a heading, and names on the line below
abbrev pub names_lines : List ℕ → List (List ℕ) → List Line
names_lines heading names = (heading ∷ []) ∷ names ∷ []

-- the same, where there are names
abbrev pub optional_lines : List ℕ → List (List ℕ) → List Line
optional_lines heading [] = []
optional_lines heading (name ∷ names) = names_lines heading (name ∷ names)

-- the lists of names, and the end
abbrev pub list_lines : Written → List Line
list_lines written =
    names_lines (codes "BINARIES") written.binaries
    ++ (optional_lines (codes "EXISTS") written.exists
    ++ (optional_lines (codes "ALL") written.universal
    ++ (names_lines (codes "ORDER") written.order ++ (codes "END" ∷ []) ∷ [])))

-- the lines of a whole text
abbrev pub lines_of : Written → List Line
lines_of written =
    (codes "MAXIMIZE" ∷ []) ∷ terms_words written.objective
    ∷ rows_heading ∷ (map row_words written.rows ++ (uncertain_lines written.uncertain ++ list_lines written))

-- the bytes of the text that says this, with one objective, row or list of names a line
abbrev pub text_of : Written → List ℕ
text_of written = lines_text (lines_of written)
