-- The lines of what is written spell it.
use Rattle.std.proofs.Common.{◌≡◌, ◌≢◌, ℕ, suc, ◌<◌, Bool, true, false, not, ◌&&◌, leb, List, [], ◌∷◌, ◌++◌, length, map, ℤ, pos, negsuc, unsigned_abs, refl, ap, sym, subst, ◌∙◌, inl, inr, arith, All, lit<}
use Rattle.std.specs.Prelude.{IsTrue, codes}
use Rattle.std.specs.Char.{is_ascii_alphabetic, is_ascii_alphanumeric, is_ascii_digit}
use Rattle.std.specs.Fmt.{decimal}
use Rattle.std.specs.List.{flat_map, list_all}
use Rattle.std.proofs.lemmas.Bool.{and_parts}
use Rattle.std.proofs.lemmas.Bool.Decides.{nat_tests}
use Rattle.std.proofs.lemmas.Fmt.{decimal_nonempty, length-decimal-le}
use Rattle.std.proofs.lemmas.List.Elements.{All-contains, All-head, All-tail}
use Rattle.qm_text.proofs.Slashes.{digits_of_plain}
use Rattle.qm_text.proofs.Written.{whole_written}
use Rattle.qm_small.specs.Grammar.{Each, Name, Names, NewLine, OptionalNames, Part, Right, Row, Sign, SmallText, SpellsText, Term, Terms, UncertainRows}
use Rattle.qm_small.specs.Lines.{Line, lines_of, list_lines, names_lines, optional_lines, right_words, row_words, rows_heading, sign_words, term_words, terms_words, text_of, uncertain_lines}
use Rattle.qm_small.specs.Names as small
use Rattle.qm_small.specs.Problems.{problem_of}
use Rattle.qm_small.specs.Small.{IsSmallText}
use Rattle.qm_small.specs.Spelling.{IsNumber, is_identifier, is_name, is_number}
use Rattle.qm_small.specs.Words.{is_blank}
use Rattle.qm_small.specs.Writable.{HaveShortFactors, IsWritable, IsWritableRow}
use Rattle.qm_small.specs.Written.{Word, Written, WrittenRow, WrittenTerm}
use Rattle.qm_small.proofs.LineWords.{AreSolid, AreSolidLines, IsSolid, lined, lines_words, is_full, marked}
use Rattle.qm_small.proofs.PieceSymbols.{same_value}
use Rattle.qm_small.proofs.WordTokens.{digits_of_number, identifier_of_name}

-- ---- numbers and names

spells_number : (n : ℕ) → n < 1000000 → IsNumber (decimal n) n
unfolding is_number
spells_number n small =
    let spelled = (whole_written (decimal n) (pos n) (omega arith)).1 refl in
    let digits = digits_of_plain (decimal n) spelled.0 in
    let some = decimal_nonempty n (omega arith) in
    let few = length-decimal-le 6 n (lit< tt) (omega arith) (omega arith) in
    let short : (leb 1 (length (decimal n)) && leb (length (decimal n)) 6) ≡ true = grind (arith, nat_tests) in
    (rw (short, digits) refl, spelled.1 ∙ sym (same_value (decimal n)))

digit_full : (byte : ℕ) → is_ascii_digit byte ≡ true → not (is_blank byte) ≡ true
digit_full byte digit = grind (arith, nat_tests)

letter_full : (byte : ℕ) → is_ascii_alphabetic byte ≡ true → not (is_blank byte) ≡ true
letter_full byte letter = grind (arith, nat_tests)

either_full : (byte : ℕ) → is_ascii_alphanumeric byte ≡ true → not (is_blank byte) ≡ true
either_full byte either = grind (arith, nat_tests)

all_full : (test : ℕ → Bool) → ((byte : ℕ) → test byte ≡ true → not (is_blank byte) ≡ true) → (bytes : List ℕ) → list_all test bytes ≡ true → is_full bytes ≡ true
all_full test full [] all = refl
all_full test full (byte ∷ bytes) all =
    let here = and_parts (test byte) (list_all test bytes) all in
    rw (full byte here.0) (all_full test full bytes here.1)

no_bytes : is_number [] ≡ false
unfolding is_number
no_bytes = refl

number_solid : (word : List ℕ) → is_number word ≡ true → IsSolid word
number_solid [] is = let none = no_bytes in absurd cc
number_solid (byte ∷ bytes) is = all_full is_ascii_digit digit_full (byte ∷ bytes) (digits_of_number (byte ∷ bytes) is)

identifier_solid : (word : List ℕ) → is_identifier word ≡ true → IsSolid word
unfolding is_identifier
identifier_solid [] is = absurd cc
identifier_solid (letter ∷ others) is =
    let parts = and_parts (is_ascii_alphabetic letter) (list_all is_ascii_alphanumeric others) is in
    rw (letter_full letter parts.0) (all_full is_ascii_alphanumeric either_full others parts.1)

name_solid : (name : List ℕ) → IsTrue (is_name name) → IsSolid name
name_solid name is = identifier_solid name (identifier_of_name name is).0

decimal_solid : (n : ℕ) → n < 1000000 → IsSolid (decimal n)
decimal_solid n small = number_solid (decimal n) (spells_number n small).0

-- ---- lines

solid-append : (line others : Line) → AreSolid line → AreSolid others → AreSolid (line ++ others)
solid-append [] others p q = q
solid-append (word ∷ line) others p q = (p.0, solid-append line others p.1 q)

lines-append : (lines others : List Line) → AreSolidLines lines → AreSolidLines others → AreSolidLines (lines ++ others)
lines-append [] others p q = q
lines-append (line ∷ lines) others p q = (p.0, lines-append lines others p.1 q)

marked-append : (line others : Line) (rest : List Word) → marked false (line ++ others) ++ rest ≡ marked false line ++ (marked false others ++ rest)
marked-append [] others rest = refl
marked-append (word ∷ line) others rest = ap (λ (ws : List Word). record { bytes = word; after_line = false } ∷ ws) (marked-append line others rest)

-- a line in two parts
split : (first : Bool) (line others : Line) (rest : List Word) → (next : Bool) × (marked first line ++ (marked next others ++ rest) ≡ marked first (line ++ others) ++ rest)
split first [] others rest = (first, refl)
split first (word ∷ line) others rest = (false, sym (ap (λ (ws : List Word). record { bytes = word; after_line = first } ∷ ws) (marked-append line others rest)))

-- the words spell the part, whatever comes behind them, and whether or not the first comes after an LF
abbrev Spells : Part → Line → Type 0
Spells Is line = (first : Bool) (rest : List Word) → Is (marked first line ++ rest) rest

-- ---- terms

-- a short factor and a name that is spelled as one
record IsGoodTerm (term : WrittenTerm) : Type 0 where
  factor : term.factor < 1000000
  name : IsTrue (is_name term.name)

sign_solid : (is_first negative : Bool) → AreSolid (sign_words is_first negative)
sign_solid is_first true = (refl, tt)
sign_solid true false = tt
sign_solid false false = (refl, tt)

term_solid : (is_first : Bool) (term : WrittenTerm) → IsGoodTerm term → AreSolid (term_words is_first term)
term_solid is_first term good =
    solid-append (sign_words is_first term.negative) (decimal term.factor ∷ term.name ∷ []) (sign_solid is_first term.negative)
    (decimal_solid term.factor good.factor, (name_solid term.name good.name, tt))

more_solid : (terms : List WrittenTerm) → All IsGoodTerm terms → AreSolid (flat_map (term_words false) terms)
more_solid [] good = tt
more_solid (term ∷ terms) good =
    solid-append (term_words false term) (flat_map (term_words false) terms) (term_solid false term (All-head IsGoodTerm term terms good)) (more_solid terms (All-tail IsGoodTerm term terms good))

terms_solid : (terms : List WrittenTerm) → All IsGoodTerm terms → AreSolid (terms_words terms)
terms_solid [] good = tt
terms_solid (term ∷ terms) good =
    solid-append (term_words true term) (flat_map (term_words false) terms) (term_solid true term (All-head IsGoodTerm term terms good)) (more_solid terms (All-tail IsGoodTerm term terms good))

sign_spelled : (is_first negative first : Bool) (others : Line) (rest : List Word) → (next : Bool) × Sign is_first negative (marked first (sign_words is_first negative ++ others) ++ rest) (marked next others ++ rest)
sign_spelled is_first true first others rest = (false, (refl, refl))
sign_spelled true false first others rest = (first, inr refl)
sign_spelled false false first others rest = (false, (refl, refl))

term_spelled : (is_first : Bool) (term : WrittenTerm) → IsGoodTerm term → Spells (Term is_first term) (term_words is_first term)
term_spelled is_first term good first rest =
    let sign = sign_spelled is_first term.negative first (decimal term.factor ∷ term.name ∷ []) rest in
    (_, sign.1, (_, inl (spells_number term.factor good.factor, refl), (refl, good.name, refl)))

more_spelled : (terms : List WrittenTerm) → All IsGoodTerm terms → Spells (Each (Term false) terms) (flat_map (term_words false) terms)
more_spelled [] good first rest = refl
more_spelled (term ∷ terms) good first rest =
    let others = flat_map (term_words false) terms in
    let parts = split first (term_words false term) others rest in
    let P : List Word → Type 0 = λ ws. Each (Term false) (term ∷ terms) ws rest in
    subst P parts.1
    (marked parts.0 others ++ rest, term_spelled false term (All-head IsGoodTerm term terms good) first (marked parts.0 others ++ rest), more_spelled terms (All-tail IsGoodTerm term terms good) parts.0 rest)

terms_spelled : (terms : List WrittenTerm) → All IsGoodTerm terms → Spells (Terms terms) (terms_words terms)
terms_spelled [] good first rest = refl
terms_spelled (term ∷ terms) good first rest =
    let others = flat_map (term_words false) terms in
    let parts = split first (term_words true term) others rest in
    let P : List Word → Type 0 = λ ws. Terms (term ∷ terms) ws rest in
    subst P parts.1
    (marked parts.0 others ++ rest, term_spelled true term (All-head IsGoodTerm term terms good) first (marked parts.0 others ++ rest), more_spelled terms (All-tail IsGoodTerm term terms good) parts.0 rest)

-- ---- rows

record IsGoodRow (row : WrittenRow) : Type 0 where
  some : row.terms ≢ []
  terms : All IsGoodTerm row.terms
  right : unsigned_abs row.right < 1000000

right_solid : (right : ℤ) → unsigned_abs right < 1000000 → AreSolid (right_words right)
right_solid (pos n) small = (decimal_solid n small, tt)
right_solid (negsuc n) small = (refl, (decimal_solid (suc n) small, tt))

right_spelled : (right : ℤ) → unsigned_abs right < 1000000 → Spells (Right right) (right_words right)
right_spelled (pos n) small first rest = (n, inl (refl, (spells_number n small, refl)))
right_spelled (negsuc n) small first rest = (suc n, inr (refl, (_, (refl, refl), (spells_number (suc n) small, refl))))

row_solid : (row : WrittenRow) → IsGoodRow row → AreSolid (row_words row)
row_solid row good = solid-append (terms_words row.terms) (codes "<=" ∷ right_words row.right) (terms_solid row.terms good.terms) (refl, right_solid row.right good.right)

row_spelled : (row : WrittenRow) → IsGoodRow row → (first : Bool) (rest : List Word) → NewLine rest rest → Row row (marked first (row_words row) ++ rest) rest
row_spelled row good first rest ends =
    let others = codes "<=" ∷ right_words row.right in
    let parts = split first (terms_words row.terms) others rest in
    let P : List Word → Type 0 = λ ws. Row row ws rest in
    subst P parts.1
    (good.some, (marked parts.0 others ++ rest, terms_spelled row.terms good.terms first (marked parts.0 others ++ rest), (marked false (right_words row.right) ++ rest, (refl, refl), (rest, right_spelled row.right good.right false rest, ends))))

rows_solid : (rows : List WrittenRow) → All IsGoodRow rows → AreSolidLines (map row_words rows)
rows_solid [] good = tt
rows_solid (row ∷ rows) good = (row_solid row (All-head IsGoodRow row rows good), rows_solid rows (All-tail IsGoodRow row rows good))

-- lines begin with a word that comes after an LF
abbrev Begin : List Line → Type 0
Begin lines = NewLine (lined true lines) (lined true lines)

line_begins : (line others : Line) (word : List ℕ) (rest : List Word) → NewLine (marked true (line ++ word ∷ others) ++ rest) (marked true (line ++ word ∷ others) ++ rest)
line_begins [] others word rest = (refl, refl)
line_begins (first ∷ line) others word rest = (refl, refl)

rows_begin : (rows : List WrittenRow) (lines : List Line) → Begin lines → Begin (map row_words rows ++ lines)
rows_begin [] lines begins = begins
rows_begin (row ∷ rows) lines begins = line_begins (terms_words row.terms) (right_words row.right) (codes "<=") (lined true (map row_words rows ++ lines))

rows_spelled : (rows : List WrittenRow) → All IsGoodRow rows → (lines : List Line) → Begin lines → Each Row rows (lined true (map row_words rows ++ lines)) (lined true lines)
rows_spelled [] good lines begins = refl
rows_spelled (row ∷ rows) good lines begins = (
  lined true (map row_words rows ++ lines),
  row_spelled row (All-head IsGoodRow row rows good) true (lined true (map row_words rows ++ lines)) (rows_begin rows lines begins),
  rows_spelled rows (All-tail IsGoodRow row rows good) lines begins,
)

heading_solid : AreSolid rows_heading
heading_solid = (refl, (refl, tt))

uncertain_solid : (rows : List WrittenRow) → All IsGoodRow rows → AreSolidLines (uncertain_lines rows)
uncertain_solid [] good = tt
uncertain_solid (row ∷ rows) good = ((refl, heading_solid), rows_solid (row ∷ rows) good)

uncertain_begin : (rows : List WrittenRow) (lines : List Line) → Begin lines → Begin (uncertain_lines rows ++ lines)
uncertain_begin [] lines begins = begins
uncertain_begin (row ∷ rows) lines begins = (refl, refl)

uncertain_spelled : (rows : List WrittenRow) → All IsGoodRow rows → (lines : List Line) → Begin lines → UncertainRows rows (lined true (uncertain_lines rows ++ lines)) (lined true lines)
uncertain_spelled [] good lines begins = inr (refl, refl)
uncertain_spelled (row ∷ rows) good lines begins = inl (_, (refl, refl), (_, (refl, refl), (_, (refl, refl), rows_spelled (row ∷ rows) good lines begins)))

-- ---- lists of names

abbrev AreNames : List (List ℕ) → Type 0
AreNames names = All (λ name. IsTrue (is_name name)) names

names_solid : (names : List (List ℕ)) → AreNames names → AreSolid names
names_solid [] are = tt
names_solid (name ∷ names) are =
    let P : List ℕ → Type 0 = λ name. IsTrue (is_name name) in
    (name_solid name (All-head P name names are), names_solid names (All-tail P name names are))

names_spelled : (names : List (List ℕ)) → AreNames names → Spells (Each Name names) names
names_spelled [] are first rest = refl
names_spelled (name ∷ names) are first rest =
    let P : List ℕ → Type 0 = λ name. IsTrue (is_name name) in
    (marked false names ++ rest, (refl, All-head P name names are, refl), names_spelled names (All-tail P name names are) false rest)

section_spelled : (heading : List ℕ) (names : List (List ℕ)) → AreNames names → (lines : List Line) → Names heading names (lined true (names_lines heading names ++ lines)) (lined true lines)
section_spelled heading names are lines = (_, (refl, refl), names_spelled names are true (lined true lines))

optional_spelled : (heading : List ℕ) (names : List (List ℕ)) → AreNames names → (lines : List Line) → OptionalNames heading names (lined true (optional_lines heading names ++ lines)) (lined true lines)
optional_spelled heading [] are lines = inr (refl, refl)
optional_spelled heading (name ∷ names) are lines = inl (section_spelled heading (name ∷ names) are lines)

section_solid : (heading : List ℕ) (names : List (List ℕ)) → IsSolid heading → AreNames names → AreSolidLines (names_lines heading names)
section_solid heading names solid are = ((solid, tt), (names_solid names are, tt))

optional_solid : (heading : List ℕ) (names : List (List ℕ)) → IsSolid heading → AreNames names → AreSolidLines (optional_lines heading names)
optional_solid heading [] solid are = tt
optional_solid heading (name ∷ names) solid are = section_solid heading (name ∷ names) solid are

-- ---- the whole text

-- names that stand among names are names
known_names : (known names : List (List ℕ)) → AreNames known → small.AreKnown known names → AreNames names
known_names known names are all = λ k d below. All-contains (λ name. IsTrue (is_name name)) known _ are (all k d below)

good_terms : (known : List (List ℕ)) (terms : List WrittenTerm) → AreNames known → small.AreOver known terms → HaveShortFactors terms → All IsGoodTerm terms
good_terms known terms are over short = λ k d below. record { factor = short k d below; name = All-contains (λ name. IsTrue (is_name name)) known _ are (over k d below) }

good_row : (known : List (List ℕ)) (row : WrittenRow) → AreNames known → small.AreOver known row.terms → IsWritableRow row → IsGoodRow row
good_row known row are over writable = record { some = writable.some; terms = good_terms known row.terms are over writable.factors; right = writable.right }

good_rows : (known : List (List ℕ)) (rows : List WrittenRow) → AreNames known → small.AreRowsOver known rows → All IsWritableRow rows → All IsGoodRow rows
good_rows known rows are over writable = λ k d below. good_row known _ are (over k d below) (writable k d below)

-- what is written is good, all of it
record IsGood (written : Written) : Type 0 where
  objective : All IsGoodTerm written.objective
  rows : All IsGoodRow written.rows
  uncertain : All IsGoodRow written.uncertain
  binaries : AreNames written.binaries
  exists : AreNames written.exists
  universal : AreNames written.universal
  order : AreNames written.order

all_good : (written : Written) → IsWritable written → IsGood written
all_good written writable =
    let right = writable.names_right in
    let fit = right.lists in
    let are = writable.names in
    let universal = known_names written.binaries written.universal are fit.universal_known in
    record {
      objective = good_terms written.binaries written.objective are right.objective_known writable.objective;
      rows = good_rows written.binaries written.rows are right.rows_known writable.rows;
      uncertain = good_rows written.universal written.uncertain universal right.uncertain_known writable.uncertain;
      binaries = are;
      exists = known_names written.binaries written.exists are fit.exists_known;
      universal = universal;
      order = known_names written.binaries written.order are fit.order_known;
    }

-- the lists of names from EXISTS, from ALL and from ORDER on, and the end
abbrev end_lines : List Line
end_lines = (codes "END" ∷ []) ∷ []

abbrev from_order : Written → List Line
from_order written = names_lines (codes "ORDER") written.order ++ end_lines

abbrev from_all : Written → List Line
from_all written = optional_lines (codes "ALL") written.universal ++ from_order written

abbrev from_exists : Written → List Line
from_exists written = optional_lines (codes "EXISTS") written.exists ++ from_all written

list_solid : (written : Written) → IsGood written → AreSolidLines (list_lines written)
list_solid written good =
    let end : AreSolidLines end_lines = ((refl, tt), tt) in
    let order = lines-append (names_lines (codes "ORDER") written.order) end_lines (section_solid (codes "ORDER") written.order refl good.order) end in
    let all = lines-append (optional_lines (codes "ALL") written.universal) (from_order written) (optional_solid (codes "ALL") written.universal refl good.universal) order in
    let exists = lines-append (optional_lines (codes "EXISTS") written.exists) (from_all written) (optional_solid (codes "EXISTS") written.exists refl good.exists) all in
    lines-append (names_lines (codes "BINARIES") written.binaries) (from_exists written) (section_solid (codes "BINARIES") written.binaries refl good.binaries) exists

all_lines_solid : (written : Written) → IsGood written → AreSolidLines (lines_of written)
all_lines_solid written good =
    let uncertain = lines-append (uncertain_lines written.uncertain) (list_lines written) (uncertain_solid written.uncertain good.uncertain) (list_solid written good) in
    let rows = lines-append (map row_words written.rows) (uncertain_lines written.uncertain ++ list_lines written) (rows_solid written.rows good.rows) uncertain in
    ((refl, tt), (terms_solid written.objective good.objective, (heading_solid, rows)))

lines_spell : (written : Written) → IsGood written → SmallText written (lined false (lines_of written)) []
lines_spell written good =
    let lists = list_lines written in
    let behind_rows = uncertain_lines written.uncertain ++ lists in
    let from_rows = rows_heading ∷ (map row_words written.rows ++ behind_rows) in (
      lined true from_rows,
      (_, (refl, refl), terms_spelled written.objective good.objective true (lined true from_rows)),
      (
        lined true behind_rows,
        (_, (refl, refl), (_, (refl, refl), rows_spelled written.rows good.rows behind_rows (uncertain_begin written.uncertain lists (refl, refl)))),
        (
          lined true lists,
          uncertain_spelled written.uncertain good.uncertain lists (refl, refl),
          (
            lined true (from_exists written),
            section_spelled (codes "BINARIES") written.binaries good.binaries (from_exists written),
            (
              lined true (from_all written),
              optional_spelled (codes "EXISTS") written.exists good.exists (from_all written),
              (
                lined true (from_order written),
                optional_spelled (codes "ALL") written.universal good.universal (from_order written),
                (lined true end_lines, section_spelled (codes "ORDER") written.order good.order end_lines, (refl, refl)),
              ),
            ),
          ),
        ),
      ),
    )

text_spelled : (written : Written) → IsGood written → SpellsText (text_of written) written
unfolding SpellsText
text_spelled written good = subst (λ (ws : List Word). SmallText written ws []) (sym (lines_words (lines_of written) (all_lines_solid written good))) (lines_spell written good)

-- the text of what is written is a small text of its problem
pub written_small : (written : Written) → IsWritable written → IsSmallText (text_of written) (problem_of written)
written_small written writable = record {
  short = writable.short;
  written = written;
  spelled = text_spelled written (all_good written writable);
  names_right = writable.names_right;
  problem = refl;
}
