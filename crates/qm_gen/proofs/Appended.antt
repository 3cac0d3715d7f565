-- The bytes of lines, part by part.
use Rattle.std.proofs.Common.{◌≡◌, ◌≢◌, ℕ, true, false, filter, List, [], ◌∷◌, ◌++◌, map, pos, refl, ap, sym, ◌∙◌}
use Rattle.std.specs.Prelude.{codes}
use Rattle.std.specs.Fmt.{decimal}
use Rattle.std.specs.List.{flat_map}
use Rattle.std.proofs.lemmas.List.{append-nil, append_assoc, map-append}
use Rattle.std.proofs.lemmas.List.Concat.{flat_map-append}
use Rattle.qm_small.specs.Lines.{Line, lines_of, lines_text, list_lines, names_lines, optional_lines, row_words, rows_heading, spaced, term_words, terms_words, uncertain_lines}
use Rattle.qm_small.specs.Written.{Written, WrittenRow}
use Rattle.qm_gen.specs.declared.term.Term.{Term}
use Rattle.qm_gen.specs.Generated.{name_of, rows_of, sum_terms, written_term}
use Rattle.qm_gen.specs.WritingSteps.{lists_of, more_text, rows_text, term_text, terms_text}

abbrev behind : Line → List ℕ
behind line = flat_map (λ other. 32 ∷ other) line

-- ---- terms

more_behind : (terms : List Term) → behind (flat_map (term_words false) (map written_term terms)) ≡ flat_map more_text terms
more_behind [] = refl
more_behind (term ∷ terms) =
    let others = behind (flat_map (term_words false) (map written_term terms)) in
    let same : decimal term.factor ++ (32 ∷ (name_of term.variable ++ others)) ≡ term_text term ++ others = sym (append_assoc (decimal term.factor) (32 ∷ name_of term.variable) others) in
    ap (λ (t : List ℕ). 32 ∷ 43 ∷ 32 ∷ t) (same ∙ ap (λ (t : List ℕ). term_text term ++ t) (more_behind terms))

pub terms_text-cons : (term : Term) (terms : List Term) → terms_text (term ∷ terms) ≡ term_text term ++ flat_map more_text terms
terms_text-cons term terms =
    let others = behind (flat_map (term_words false) (map written_term terms)) in
    let same : decimal term.factor ++ (32 ∷ (name_of term.variable ++ others)) ≡ term_text term ++ others = sym (append_assoc (decimal term.factor) (32 ∷ name_of term.variable) others) in
    same ∙ ap (λ (t : List ℕ). term_text term ++ t) (more_behind terms)

-- ---- rows

-- a line in two parts, the first of which isn't empty
spaced-append : (word : List ℕ) (line others : Line) → spaced (word ∷ (line ++ others)) ≡ spaced (word ∷ line) ++ behind others
spaced-append word line others =
    ap (λ (t : List ℕ). word ++ t) (flat_map-append (λ (other : List ℕ). 32 ∷ other) line others) ∙ sym (append_assoc word (behind line) (behind others))

row_line : (term : Term) (terms : List Term) (right : ℕ) → spaced (row_words (record { terms = map written_term (term ∷ terms); right = pos right })) ≡ terms_text (term ∷ terms) ++ (codes " <= " ++ decimal right)
row_line term terms right =
    spaced-append (decimal term.factor) (name_of term.variable ∷ flat_map (term_words false) (map written_term terms)) (codes "<=" ∷ decimal right ∷ [])
    ∙ ap (λ (t : List ℕ). terms_text (term ∷ terms) ++ (codes " <= " ++ t)) (append-nil (decimal right))

-- the bytes of the row of these terms
pub rows_text-of : (term : Term) (terms : List Term) (right : ℕ) → rows_text (rows_of (term ∷ terms) right) ≡ (terms_text (term ∷ terms) ++ codes " <= ") ++ decimal right ++ 10 ∷ []
rows_text-of term terms right =
    append-nil _
    ∙ ap (λ (t : List ℕ). t ++ 10 ∷ []) (row_line term terms right ∙ sym (append_assoc (terms_text (term ∷ terms)) (codes " <= ") (decimal right)))

pub rows_text-append : (rows others : List WrittenRow) → rows_text (rows ++ others) ≡ rows_text rows ++ rows_text others
rows_text-append rows others =
    ap lines_text (map-append row_words rows others) ∙ flat_map-append (λ line. spaced line ++ 10 ∷ []) (map row_words rows) (map row_words others)

-- ---- names

name_behind : (variables : List ℕ) → behind (map name_of variables) ≡ flat_map (λ variable. 32 ∷ name_of variable) variables
name_behind [] = refl
name_behind (variable ∷ variables) = ap (λ (t : List ℕ). 32 ∷ (name_of variable ++ t)) (name_behind variables)

pub names-cons : (variable : ℕ) (variables : List ℕ) → spaced (map name_of (variable ∷ variables)) ≡ name_of variable ++ flat_map (λ other. 32 ∷ name_of other) variables
names-cons variable variables = ap (λ (t : List ℕ). name_of variable ++ t) (name_behind variables)

-- the bytes of a heading and of names
pub names_text : (heading : List ℕ) (names : List (List ℕ)) → lines_text (names_lines heading names) ≡ (heading ++ 10 ∷ []) ++ (spaced names ++ 10 ∷ [])
names_text heading names =
    let P : List ℕ → List ℕ = λ t. (t ++ 10 ∷ []) ++ ((spaced names ++ 10 ∷ []) ++ []) in
    ap P (append-nil heading) ∙ ap (λ (t : List ℕ). (heading ++ 10 ∷ []) ++ t) (append-nil (spaced names ++ 10 ∷ []))

-- ---- the whole text

pub lines_text-append : (lines others : List Line) → lines_text (lines ++ others) ≡ lines_text lines ++ lines_text others
lines_text-append lines others = flat_map-append (λ line. spaced line ++ 10 ∷ []) lines others

abbrev pub front_lines : Written → List Line
front_lines written = (codes "MAXIMIZE" ∷ []) ∷ terms_words written.objective ∷ []

-- the parts of a text, one behind the other
pub text-parts : (written : Written)
    → lines_text (lines_of written)
    ≡ ((lines_text (front_lines written) ++ lines_text (rows_heading ∷ map row_words written.rows)) ++ lines_text (uncertain_lines written.uncertain)) ++ lines_text (list_lines written)
text-parts written =
    let front = front_lines written in
    let rows = rows_heading ∷ map row_words written.rows in
    let uncertain = uncertain_lines written.uncertain in
    let lists = list_lines written in
    lines_text-append front (rows ++ (uncertain ++ lists))
    ∙ ap (λ (t : List ℕ). lines_text front ++ t)
    (lines_text-append rows (uncertain ++ lists) ∙ ap (λ (t : List ℕ). lines_text rows ++ t) (lines_text-append uncertain lists))
    ∙ sym (append_assoc (lines_text front) (lines_text rows) (lines_text uncertain ++ lines_text lists))
    ∙ sym (append_assoc (lines_text front ++ lines_text rows) (lines_text uncertain) (lines_text lists))

-- the parts of the lists of names
pub lists-parts : (everyone existential universal : List ℕ)
    → lines_text (lists_of everyone existential universal)
    ≡ (((lines_text (names_lines (codes "BINARIES") (map name_of everyone)) ++ lines_text (optional_lines (codes "EXISTS") (map name_of existential)))
    ++ lines_text (optional_lines (codes "ALL") (map name_of universal))) ++ lines_text (names_lines (codes "ORDER") (map name_of everyone))) ++ (codes "END" ++ 10 ∷ [])
lists-parts everyone existential universal =
    let binaries = names_lines (codes "BINARIES") (map name_of everyone) in
    let exists = optional_lines (codes "EXISTS") (map name_of existential) in
    let all = optional_lines (codes "ALL") (map name_of universal) in
    let order = names_lines (codes "ORDER") (map name_of everyone) in
    let last : List Line = (codes "END" ∷ []) ∷ [] in
    let end = lines_text last in
    lines_text-append binaries (exists ++ (all ++ (order ++ last)))
    ∙ ap (λ (t : List ℕ). lines_text binaries ++ t)
    (lines_text-append exists (all ++ (order ++ last))
    ∙ ap (λ (t : List ℕ). lines_text exists ++ t)
    (lines_text-append all (order ++ last) ∙ ap (λ (t : List ℕ). lines_text all ++ t) (lines_text-append order last)))
    ∙ sym (append_assoc (lines_text binaries) (lines_text exists) (lines_text all ++ (lines_text order ++ end)))
    ∙ sym (append_assoc (lines_text binaries ++ lines_text exists) (lines_text all) (lines_text order ++ end))
    ∙ sym (append_assoc ((lines_text binaries ++ lines_text exists) ++ lines_text all) (lines_text order) end)

-- ---- what calls append

-- one piece behind another
pub wrote : (old mid new first second all : List ℕ) → mid ≡ old ++ first → new ≡ mid ++ second → all ≡ first ++ second → new ≡ old ++ all
wrote old mid new first second all e f g = f ∙ ap (λ (t : List ℕ). t ++ second) e ∙ append_assoc old first second ∙ ap (λ (t : List ℕ). old ++ t) (sym g)

-- a first term and others
pub terms_wrote : (old mid new : List ℕ) (terms : List Term) (first : Term) (others : List Term) → terms ≡ first ∷ others → mid ≡ old ++ term_text first → new ≡ mid ++ flat_map more_text others → new ≡ old ++ terms_text terms
terms_wrote old mid new terms first others is e f = wrote old mid new (term_text first) (flat_map more_text others) (terms_text terms) e f (ap terms_text is ∙ terms_text-cons first others)

-- a first name and others
pub names_wrote : (old mid new variables : List ℕ) (first : ℕ) (others : List ℕ) → variables ≡ first ∷ others → mid ≡ old ++ name_of first → new ≡ mid ++ flat_map (λ variable. 32 ∷ name_of variable) others
    → new ≡ old ++ spaced (map name_of variables)
names_wrote old mid new variables first others is e f =
    wrote old mid new (name_of first) (flat_map (λ variable. 32 ∷ name_of variable) others) (spaced (map name_of variables)) e f (ap (λ (vs : List ℕ). spaced (map name_of vs)) is ∙ names-cons first others)

-- the heading of the uncertainty rows, and a row
pub uncertain_wrote : (old mid new numbers : List ℕ) (right : ℕ) → numbers ≢ [] → mid ≡ old ++ (codes "UNCERTAINTY SUBJECT TO" ++ 10 ∷ []) → new ≡ mid ++ rows_text (rows_of (sum_terms numbers) right)
    → new ≡ old ++ lines_text (uncertain_lines (rows_of (sum_terms numbers) right))
uncertain_wrote old mid new [] right some e f = absurd (some refl)
uncertain_wrote old mid new (number ∷ numbers) right some e f =
    wrote old mid new (codes "UNCERTAINTY SUBJECT TO" ++ 10 ∷ []) (rows_text (rows_of (sum_terms (number ∷ numbers)) right)) (lines_text (uncertain_lines (rows_of (sum_terms (number ∷ numbers)) right))) e f refl

-- the whole text, part by part, from nothing
pub text_wrote : (one two three new : List ℕ) (written : Written) → one ≡ lines_text (front_lines written) → two ≡ one ++ lines_text (rows_heading ∷ map row_words written.rows) → three ≡ two ++ lines_text (uncertain_lines written.uncertain)
    → new ≡ three ++ lines_text (list_lines written) → new ≡ lines_text (lines_of written)
text_wrote one two three new written a b c d =
    let rows = lines_text (rows_heading ∷ map row_words written.rows) in
    let uncertain = lines_text (uncertain_lines written.uncertain) in
    let last = lines_text (list_lines written) in
    d
    ∙ ap (λ (t : List ℕ). t ++ last) (c ∙ ap (λ (t : List ℕ). t ++ uncertain) (b ∙ ap (λ (t : List ℕ). t ++ rows) a))
    ∙ sym (text-parts written)

pub filter_all : (xs : List ℕ) → filter (λ x. true) xs ≡ xs
filter_all [] = refl
filter_all (x ∷ xs) = ap (λ (ys : List ℕ). x ∷ ys) (filter_all xs)
