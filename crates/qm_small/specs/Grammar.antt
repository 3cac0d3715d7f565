-- What is written, and the words that spell it.
use Rattle.std.specs.Prelude.{◌≡◌, ◌≢◌, ℕ, ℤ, pos, neg_ℤ, Bool, true, false, List, [], ◌∷◌, codes, ◌⊎◌, IsTrue}
use Rattle.qm_small.specs.Written.{Word, Written, WrittenRow, WrittenTerm}
use Rattle.qm_small.specs.Spelling.{is_name, IsNumber}
use Rattle.qm_small.specs.Words.{words}

infixr 20 ◌then◌
-- a part of a text: the words from where it begins, and the rest of them, behind it
abbrev pub Part : Type 1
Part = List Word → List Word → Type 0

-- one part, and another behind it
abbrev pub ◌then◌ : Part → Part → Part
(first then second) ws rest = (between : List Word) × first ws between × second between rest

-- one part or the other
abbrev pub Either : Part → Part → Part
Either one other ws rest = one ws rest ⊎ other ws rest

-- nothing is written
abbrev pub Nothing : Part
Nothing ws rest = ws ≡ rest

-- nothing is written, and this holds
abbrev pub NothingIf : Type 0 → Part
NothingIf p ws rest = p × Nothing ws rest

-- each of the items, one behind the other
abbrev pub Each : {A : Type 0} → (A → Part) → List A → Part
Each Item [] = Nothing
Each Item (item ∷ items) = Item item then Each Item items

-- this very word
abbrev pub Literal : List ℕ → Part
Literal spelling [] rest = ⊥
Literal spelling (word ∷ ws) rest = (word.bytes ≡ spelling) × (ws ≡ rest)

-- the name, which is a word
abbrev pub Name : List ℕ → Part
Name name [] rest = ⊥
Name name (word ∷ ws) rest = (word.bytes ≡ name) × IsTrue (is_name name) × (ws ≡ rest)

-- a word that spells the number
abbrev pub Number : ℕ → Part
Number n [] rest = ⊥
Number n (word ∷ ws) rest = IsNumber word.bytes n × (ws ≡ rest)

-- an LF stands before the next word
abbrev pub NewLine : Part
NewLine [] rest = ⊥
NewLine (word ∷ ws) rest = IsTrue word.after_line × (word ∷ ws ≡ rest)

-- the sign of a term, a minus where it is negative; the first term may be without its plus
abbrev pub Sign : Bool → Bool → Part
Sign is_first true = Literal (codes "-")
Sign true false = Either (Literal (codes "+")) Nothing
Sign false false = Literal (codes "+")

-- the factor of a term, which may be left out if it is 1
abbrev pub Factor : ℕ → Part
Factor n = Either (Number n) (NothingIf (n ≡ 1))

-- a sign, a factor and a name
abbrev pub Term : Bool → WrittenTerm → Part
Term is_first term = Sign is_first term.negative then Factor term.factor then Name term.name

-- terms, of which only the first may be without a sign
abbrev pub Terms : List WrittenTerm → Part
Terms [] = Nothing
Terms (term ∷ terms) = Term true term then Each (Term false) terms

-- a number, or a minus and a number
abbrev pub Right : ℤ → Part
Right right ws rest =
    (n : ℕ) × (((right ≡ pos n) × Number n ws rest) ⊎ ((right ≡ neg_ℤ (pos n)) × (Literal (codes "-") then Number n) ws rest))

-- one term at least, the relation and the right side, to the end of the line
abbrev pub Row : WrittenRow → Part
Row row ws rest = (row.terms ≢ []) × (Terms row.terms then Literal (codes "<=") then Right row.right then NewLine) ws rest

-- the terms to be maximized
abbrev pub Objective : List WrittenTerm → Part
Objective terms = Literal (codes "MAXIMIZE") then Terms terms

-- the rows below their heading
abbrev pub Rows : List WrittenRow → Part
Rows rows = Literal (codes "SUBJECT") then Literal (codes "TO") then Each Row rows

-- rows below a heading of their own, which may be left out if there are none
abbrev pub UncertainRows : List WrittenRow → Part
UncertainRows rows = Either (Literal (codes "UNCERTAINTY") then Rows rows) (NothingIf (rows ≡ []))

-- names below their heading
abbrev pub Names : List ℕ → List (List ℕ) → Part
Names heading names = Literal heading then Each Name names

-- names below their heading, which may be left out if there are no names
abbrev pub OptionalNames : List ℕ → List (List ℕ) → Part
OptionalNames heading names = Either (Names heading names) (NothingIf (names ≡ []))

-- all that is written, in the order of the text
abbrev pub SmallText : Written → Part
SmallText written =
    Objective written.objective
    then Rows written.rows
    then UncertainRows written.uncertain
    then Names (codes "BINARIES") written.binaries
    then OptionalNames (codes "EXISTS") written.exists
    then OptionalNames (codes "ALL") written.universal
    then Names (codes "ORDER") written.order
    then Literal (codes "END")

-- the text is a small text that says this, from its first word to its last
unfoldable pub SpellsText : List ℕ → Written → Type 0
SpellsText text written = SmallText written (words text) []
