-- A line closes with a combination just where it is the combination's own line.
use Rattle.std.proofs.Common.{◌≡◌, ◌≢◌, ℕ, zero, suc, ◌+◌, ◌<◌, ◌^◌, Bool, true, false, List, [], ◌∷◌, ◌++◌, length, get_or, map, ℤ, pos, negsuc, ◌*ℤ◌, ◌<ℤ◌, Option, None, Some, Ok, Err, inl, inr, refl, sym, ap, ap₂, ◌∙◌, subst, arith}
use Rattle.std.specs.Prelude.{All, FitsSigned, ◌||◌, ◌&&◌, ◌==◌, codes, nat_lt, if◌then◌else◌}
use Rattle.std.specs.Char.{is_ascii_digit}
use Rattle.std.specs.Fmt.{decimal}
use Rattle.std.specs.Int.{w64}
use Rattle.std.specs.Str.{bytes_eq}
use Rattle.std.proofs.lemmas.Bool.{and_parts}
use Rattle.std.proofs.lemmas.Bool.Decides.{nat_tests}
use Rattle.std.proofs.lemmas.Int.{ints}
use Rattle.std.proofs.lemmas.List.Elements.{All-cons, All-nil}
use Rattle.qm_math.specs.Fraction.{Fraction, IsBelow, whole}
use Rattle.qm_frac.specs.Lowest.{IsFrac}
use Rattle.qm_model.specs.declared.row_id.RowId.{RowId}
use Rattle.qm_model.specs.declared.row_id.RowId.TheVariants as id
use Rattle.qm_text.specs.Digits.{are_digits, numeral_value}
use Rattle.qm_text.specs.Numbers.{SpellsFraction, SpellsNatural, SpellsWhole, number_word}
use Rattle.qm_text.proofs.Cuts.{first_digit}
use Rattle.qm_text.proofs.Slashes.{digits_of_plain}
use Rattle.qm_text.proofs.Written.{fraction_written, narrow_written}
use Rattle.qm_trees.specs.declared.combination.Entry.{Entry}
use Rattle.qm_trees.specs.Entries.{AreEntries, Combination, IsBefore, IsPositive}
use Rattle.qm_certread.specs.declared.fault.Misread.TheVariants as rule
use Rattle.qm_certfile.specs.Lines.{Word, Line}
use Rattle.qm_certfile.specs.Numbers.{number_of_row}
use Rattle.qm_certfile.specs.Styles.{first_style, numbered}
use Rattle.qm_certfile.specs.TreeLines.{close_line, entry_word, objective_words}
use Rattle.qm_certread.specs.Spelling.{Said, Written, are_in_order, as_row, combination, combination_said, cut_at, each, entries_said, entry_of, entry_row, entry_said, is_before, multiplier_word, of_type, row_id, whole_of, with_both, with_entries, written, written_row}
use Rattle.qm_certread.specs.Forms.{said_as, said_behind}
use Rattle.qm_certread.specs.Nodes.{Node, Close}
use Rattle.qm_certread.specs.WordSteps.{is_counting, row_number_said}
use Rattle.qm_certread.specs.Fits.{IsCombination, IsCount, IsOne, IsPlain, IsRowEntry, line_of}
use Rattle.qm_certread.proofs.Decoded.{whole_is, whole_some}
use Rattle.qm_certread.proofs.Quotients.{cut_join, cut_parts}
use Rattle.qm_certread.proofs.RowOrder.{first_of_counting, zero_of_plain}
use Rattle.qm_certread.proofs.RowsSaid.{row_from, row_said}
use Rattle.qm_certread.proofs.EntryForms.{entries_told, first_above, neither}
use Rattle.qm_certread.proofs.WordForms.{both_ok, each_said, each_told, fraction_said, fraction_told_so}
use Rattle.qm_certread.proofs.LineForms.{as_told, behind_said, behind_told, bytes_told}

-- a count's own digits
spells_count : (n : ℕ) → IsCount n → SpellsNatural (decimal n) n
spells_count n h = let fits : FitsSigned w64 (pos n) = omega arith in (narrow_written (decimal n) (pos n) fits).1 refl

-- ---- rows

number_by : (t : Bool) (kind n : ℕ) (row : RowId) → nat_lt (suc n) (2 ^ 32) ≡ t → row_from kind (if t then Ok n else Err rule.Number) ≡ Ok row
    → (m : ℕ) × (Some (pos (suc n)) ≡ Some (pos (suc m))) × (suc m < 2 ^ 32) × (row ≡ row_id kind m)
number_by true kind n row is e = let same : row_id kind n ≡ row = cc in (n, refl, grind (arith, nat_tests), sym same)
number_by false kind n row is e = absurd cc

number_told : (kind : ℕ) (found : Option ℤ) (row : RowId) → row_from kind (row_number_said found) ≡ Ok row
    → (m : ℕ) × (found ≡ Some (pos (suc m))) × (suc m < 2 ^ 32) × (row ≡ row_id kind m)
number_told kind None row e = absurd cc
number_told kind (Some (pos zero)) row e = absurd cc
number_told kind (Some (pos (suc n))) row e = number_by (nat_lt (suc n) (2 ^ 32)) kind n row refl e
number_told kind (Some (negsuc n)) row e = absurd cc

word_told : (letter kind : ℕ) (word : Word) (row : RowId) → of_type as_row (written (Some kind) (whole_of word)) ≡ Ok row
    → ((n : ℕ) → letter ∷ decimal (n + 1) ≡ numbered (row_id kind n)) → ((n : ℕ) → number_of_row (row_id kind n) ≡ n + 1)
    → (letter ∷ word ≡ numbered row) × IsCount (number_of_row row)
word_told letter kind word row e name size =
    let told = number_told kind (whole_of word) row (sym (row_said kind (whole_of word)) ∙ e) in
    let n = told.0 in
    let small = told.2 in
    let next : suc n ≡ n + 1 = omega arith in
    let fits : FitsSigned w64 (pos (suc n)) = omega arith in
    let is : word ≡ decimal (n + 1) = (narrow_written word (pos (suc n)) fits).0 (whole_some word (pos (suc n)) told.1) ∙ ap decimal next in
    let count : number_of_row row ≡ n + 1 = ap number_of_row told.3 ∙ size n in
    (ap (λ w. letter ∷ w) is ∙ name n ∙ ap numbered (sym told.3), omega arith)

letter_told : (a b c : Bool) (letter : ℕ) (word : Word) (row : RowId) → (letter == 114) ≡ a → (letter == 117) ≡ b → (letter == 99) ≡ c
    → of_type as_row (written (if a then Some 0 else (if b then Some 1 else (if c then Some 2 else None))) (whole_of word)) ≡ Ok row
    → (letter ∷ word ≡ numbered row) × IsCount (number_of_row row)
letter_told true b c letter word row is1 is2 is3 e = let same : letter ≡ 114 = grind (arith, nat_tests) in word_told letter 0 word row e (λ n. ap (λ l. l ∷ decimal (n + 1)) same) (λ n. refl)
letter_told false true c letter word row is1 is2 is3 e = let same : letter ≡ 117 = grind (arith, nat_tests) in word_told letter 1 word row e (λ n. ap (λ l. l ∷ decimal (n + 1)) same) (λ n. refl)
letter_told false false true letter word row is1 is2 is3 e = let same : letter ≡ 99 = grind (arith, nat_tests) in word_told letter 2 word row e (λ n. ap (λ l. l ∷ decimal (n + 1)) same) (λ n. refl)
letter_told false false false letter word row is1 is2 is3 e = absurd cc

row_told_so : (word : Word) (row : RowId) → of_type as_row (written_row word) ≡ Ok row → (word ≡ numbered row) × IsCount (number_of_row row)
row_told_so [] row e = absurd cc
row_told_so (letter ∷ word) row e = letter_told (letter == 114) (letter == 117) (letter == 99) letter word row refl refl refl e

-- a row as it is written
abbrev row_kind : RowId → ℕ
row_kind (id.Row n) = 0
row_kind (id.Uncertain n) = 1
row_kind (id.Cut n) = 2

abbrev row_written : RowId → Written
row_written row = record { kind = row_kind row; number = pos (number_of_row row) }

written_above : (kind m : ℕ) → 0 < m → written (Some kind) (Some (pos m)) ≡ Some (record { kind = kind; number = pos m })
written_above kind zero h = absurd (omega arith)
written_above kind (suc m) h = refl

number_written : (kind n : ℕ) → IsCount (n + 1) → written (Some kind) (whole_of (decimal (n + 1))) ≡ Some (record { kind = kind; number = pos (n + 1) })
number_written kind n h = ap (written (Some kind)) (whole_is (decimal (n + 1)) (pos (n + 1)) (spells_count (n + 1) h)) ∙ written_above kind (n + 1) (omega arith)

written_is : (row : RowId) → IsCount (number_of_row row) → written_row (numbered row) ≡ Some (row_written row)
written_is (id.Row n) h = number_written 0 n h
written_is (id.Uncertain n) h = number_written 1 n h
written_is (id.Cut n) h = number_written 2 n h

row_type : (kind m n : ℕ) → m ≡ suc n → m < 2 ^ 32 → of_type as_row (written (Some kind) (Some (pos m))) ≡ Ok (row_id kind n)
row_type kind m n is h =
    let small : nat_lt (suc n) (2 ^ 32) ≡ true = grind (arith, nat_tests) in
    let said : row_from kind (if nat_lt (suc n) (2 ^ 32) then Ok n else Err rule.Number) ≡ Ok (row_id kind n) = rw small refl in
    ap (λ k. of_type as_row (written (Some kind) (Some (pos k)))) is ∙ row_said kind (Some (pos (suc n))) ∙ said

number_said : (kind n : ℕ) → IsCount (n + 1) → of_type as_row (written (Some kind) (whole_of (decimal (n + 1)))) ≡ Ok (row_id kind n)
number_said kind n h =
    ap (λ o. of_type as_row (written (Some kind) o)) (whole_is (decimal (n + 1)) (pos (n + 1)) (spells_count (n + 1) h)) ∙ row_type kind (n + 1) n (omega arith) h

row_said_so : (row : RowId) → IsCount (number_of_row row) → of_type as_row (written_row (numbered row)) ≡ Ok row
row_said_so (id.Row n) h = number_said 0 n h
row_said_so (id.Uncertain n) h = number_said 1 n h
row_said_so (id.Cut n) h = number_said 2 n h

-- ---- multipliers

multiplier_told : (word : Word) (a : Fraction) → multiplier_word word ≡ Ok a → (word ≡ number_word a) × IsFrac a
multiplier_told word a e = fraction_told_so word a (neither (get_or word 0 0 == 45 || get_or word 0 0 == 48) word a refl e).2

first_by : (t : Bool) (word : Word) (n : ℕ) → is_counting word ≡ t → SpellsNatural word (suc n) → get_or word 0 0 ≢ 48
first_by true word n is h = first_of_counting word is
first_by false word n is h = let zero = zero_of_plain word h.0 is in let value : suc n ≡ numeral_value word = h.1 in absurd (omega arith)

no_minus : (word : Word) → are_digits word ≡ true → get_or word 0 0 ≢ 45
no_minus [] all = λ e. absurd (omega (arith, e))
no_minus (d ∷ ds) all = let digit = first_digit d ds all in λ e. absurd (grind (arith, nat_tests))

first_of_natural : (word : Word) (z : ℤ) (n : ℕ) → z ≡ pos (suc n) → SpellsWhole word z → (get_or word 0 0 ≢ 45) × (get_or word 0 0 ≢ 48)
first_of_natural word z n is h =
    let spelled : SpellsNatural word (suc n) = subst (SpellsWhole word) is h in
    (no_minus word (digits_of_plain word spelled.0), first_by (is_counting word) word n refl spelled)

first_spelled : (word : Word) (a : Fraction) (n : ℕ) → a.num ≡ pos (suc n) → SpellsFraction word a → (get_or word 0 0 ≢ 45) × (get_or word 0 0 ≢ 48)
first_spelled word a n is (inl h) = first_of_natural word a.num n is h.0
first_spelled word a n is (inr h) =
    let q = h.0 in
    let same = first_above word q.above q.below a.num q.parts q.num in
    let first = first_of_natural q.above a.num n is q.num in
    (λ e. first.0 (sym same ∙ e), λ e. first.1 (sym same ∙ e))

positive_num : (a : Fraction) (z : ℤ) → a.num ≡ z → IsBelow (whole (pos 0)) a → (n : ℕ) × (z ≡ pos (suc n))
positive_num a (pos zero) is h = absurd (let less : (pos 0 *ℤ pos a.den) <ℤ (pos 0 *ℤ pos 1) = subst (λ (z : ℤ). (pos 0 *ℤ pos a.den) <ℤ (z *ℤ pos 1)) is h in omega (arith, ints))
positive_num a (pos (suc n)) is h = (n, refl)
positive_num a (negsuc n) is h = absurd (let less : (pos 0 *ℤ pos a.den) <ℤ (negsuc n *ℤ pos 1) = subst (λ (z : ℤ). (pos 0 *ℤ pos a.den) <ℤ (z *ℤ pos 1)) is h in omega (arith, ints))

multiplier_said : (e : Entry) → IsFrac e.by → IsPositive e → multiplier_word (number_word e.by) ≡ Ok e.by
multiplier_said e frac positive =
    let num = positive_num e.by e.by.num refl positive.1 in
    let first = first_spelled (number_word e.by) e.by num.0 num.1 ((fraction_written (number_word e.by) e.by frac).1 refl) in
    let minus : get_or (number_word e.by) 0 0 ≢ 45 = first.0 in
    let zero : get_or (number_word e.by) 0 0 ≢ 48 = first.1 in
    let one : (get_or (number_word e.by) 0 0 == 45) ≡ false = grind (arith, nat_tests) in
    let other : (get_or (number_word e.by) 0 0 == 48) ≡ false = grind (arith, nat_tests) in
    rw (one, other) (fraction_said e.by frac)

-- ---- entries

-- no byte of a row's name is the one behind it
no_mark : (ds : List ℕ) → are_digits ds ≡ true → (k : ℕ) → k < length ds → get_or ds k 0 ≢ 61
no_mark [] all k h = absurd (omega arith)
no_mark (d ∷ ds) all zero h = let here : is_ascii_digit d ≡ true = (and_parts (is_ascii_digit d) (are_digits ds) all).0 in λ e. absurd (grind (arith, nat_tests))
no_mark (d ∷ ds) all (suc k) h = no_mark ds (and_parts (is_ascii_digit d) (are_digits ds) all).1 k (omega arith)

no_mark_behind : (letter : ℕ) (ds : List ℕ) → letter ≢ 61 → are_digits ds ≡ true → (k : ℕ) → k < length (letter ∷ ds) → get_or (letter ∷ ds) k 0 ≢ 61
no_mark_behind letter ds other all zero h = other
no_mark_behind letter ds other all (suc k) h = no_mark ds all k (omega arith)

row_unmarked : (row : RowId) → IsCount (number_of_row row) → (k : ℕ) → k < length (numbered row) → get_or (numbered row) k 0 ≢ 61
row_unmarked (id.Row n) h = no_mark_behind 114 (decimal (n + 1)) (λ e. omega arith) (digits_of_plain (decimal (n + 1)) (spells_count (n + 1) h).0)
row_unmarked (id.Uncertain n) h = no_mark_behind 117 (decimal (n + 1)) (λ e. omega arith) (digits_of_plain (decimal (n + 1)) (spells_count (n + 1) h).0)
row_unmarked (id.Cut n) h = no_mark_behind 99 (decimal (n + 1)) (λ e. omega arith) (digits_of_plain (decimal (n + 1)) (spells_count (n + 1) h).0)

cut_entry : (e : Entry) → IsRowEntry e → cut_at 61 (entry_word first_style e) ≡ Some (numbered e.row, number_word e.by)
cut_entry e h = cut_join 61 (numbered e.row) (number_word e.by) (row_unmarked e.row h.0)

abbrev parts_said : Option (Word × Word) → Said Entry
parts_said None = Err rule.Text
parts_said (Some parts) = with_both entry_of (of_type as_row (written_row parts.0)) (multiplier_word parts.1)

abbrev parts_row : Option (Word × Word) → Option Written
parts_row None = None
parts_row (Some parts) = written_row parts.0

parts_told : (word : Word) (found : Option (Word × Word)) (e : Entry) → cut_at 61 word ≡ found → parts_said found ≡ Ok e → (word ≡ entry_word first_style e) × IsRowEntry e
parts_told word None e is h = absurd cc
parts_told word (Some (x, y)) e is h =
    let both = both_ok entry_of (of_type as_row (written_row x)) (multiplier_word y) e h in
    let row = row_told_so x both.0 both.2 in
    let by = multiplier_told y both.1 both.3 in
    subst (λ (f : Entry). (word ≡ entry_word first_style f) × IsRowEntry f) both.4
    (cut_parts 61 word x y is ∙ ap₂ (λ (v : Word) (w : Word). v ++ 61 ∷ w) row.0 by.0, (row.1, by.1))

entry_told_so : (word : Word) (e : Entry) → entry_said word ≡ Ok e → (word ≡ entry_word first_style e) × IsRowEntry e
entry_told_so word e h = parts_told word (cut_at 61 word) e refl h

entry_said_so : (e : Entry) → IsRowEntry e × IsPositive e → entry_said (entry_word first_style e) ≡ Ok e
entry_said_so e (h, positive) =
    ap parts_said (cut_entry e h) ∙ ap₂ (λ (r : Said RowId) (b : Said Fraction). with_both entry_of r b) (row_said_so e.row h.0) (multiplier_said e h.1 positive)

-- ---- in order

entry_row_is : (e : Entry) → IsRowEntry e → entry_row (entry_word first_style e) ≡ Some (row_written e.row)
entry_row_is e h = ap parts_row (cut_entry e h) ∙ written_is e.row h.0

later : (m n : ℕ) → m < n → nat_lt (m + 1) (n + 1) ≡ true
later m n h = grind (arith, nat_tests)

before_said : (r s : RowId) → IsBefore r s → is_before (Some (row_written r)) (Some (row_written s)) ≡ true
before_said (id.Row m) (id.Row n) h = later m n h
before_said (id.Row m) (id.Uncertain n) h = refl
before_said (id.Row m) (id.Cut n) h = refl
before_said (id.Uncertain m) (id.Row n) h = absurd h
before_said (id.Uncertain m) (id.Uncertain n) h = later m n h
before_said (id.Uncertain m) (id.Cut n) h = refl
before_said (id.Cut m) (id.Row n) h = absurd h
before_said (id.Cut m) (id.Uncertain n) h = absurd h
before_said (id.Cut m) (id.Cut n) h = later m n h

behind_all : {A : Type 0} (Is : A → Type 0) (x : A) (xs : List A) → All Is (x ∷ xs) → All Is xs
behind_all {A} Is x xs all = λ k d h. all (suc k) d (omega arith)

first_all : {A : Type 0} (Is : A → Type 0) (x : A) (xs : List A) → All Is (x ∷ xs) → Is x
first_all {A} Is x xs all = all 0 x (omega arith)

order_said : (es : List Entry) → AreEntries es → All IsRowEntry es → are_in_order (map (entry_word first_style) es) ≡ true
order_said [] h all = refl
order_said (e ∷ []) h all = refl
order_said (e ∷ f ∷ es) h all =
    let rest = behind_all IsRowEntry e (f ∷ es) all in
    ap₂ ◌&&◌
    (ap₂ is_before (entry_row_is e (first_all IsRowEntry e (f ∷ es) all)) (entry_row_is f (first_all IsRowEntry f es rest)) ∙ before_said e.row f.row h.1)
    (order_said (f ∷ es) h.2 rest)

and_behind : (e : Entry) (es : List Entry) → IsRowEntry e × IsPositive e → All (λ e. IsRowEntry e × IsPositive e) es → All (λ e. IsRowEntry e × IsPositive e) (e ∷ es)
and_behind e es h rest = All-cons (λ (e : Entry). IsRowEntry e × IsPositive e) e es h rest

with_positive : (es : List Entry) → AreEntries es → All IsRowEntry es → All (λ e. IsRowEntry e × IsPositive e) es
with_positive [] h all = All-nil (λ (e : Entry). IsRowEntry e × IsPositive e)
with_positive (e ∷ []) h all = and_behind e [] (first_all IsRowEntry e [] all, h) (All-nil (λ (e : Entry). IsRowEntry e × IsPositive e))
with_positive (e ∷ f ∷ es) h all = and_behind e (f ∷ es) (first_all IsRowEntry e (f ∷ es) all, h.0) (with_positive (f ∷ es) h.2 (behind_all IsRowEntry e (f ∷ es) all))

-- ---- combinations

abbrev words : List Entry → List Word
words es = map (entry_word first_style) es

abbrev AreTold : List Word → List Entry → Type 0
AreTold ws es = (ws ≡ words es) × AreEntries es × All IsRowEntry es

order_by : (t : Bool) (ws : List Word) (es : List Entry) → are_in_order ws ≡ t → (if t then each entry_said ws else Err rule.Text) ≡ Ok es → AreTold ws es
order_by true ws es is e =
    let all = each_told entry_said (entry_word first_style) IsRowEntry entry_told_so ws es e in
    (all.0, (entries_told ws es e is).0, all.1)
order_by false ws es is e = absurd cc

entries_told_so : (ws : List Word) (es : List Entry) → entries_said ws ≡ Ok es → AreTold ws es
entries_told_so ws es e = order_by (are_in_order ws) ws es refl e

entries_said_so : (es : List Entry) → AreEntries es → All IsRowEntry es → entries_said (words es) ≡ Ok es
entries_said_so es h all =
    ap (λ (t : Bool). if t then each entry_said (words es) else Err rule.Text) (order_said es h all)
    ∙ each_said entry_said (entry_word first_style) (λ (e : Entry). IsRowEntry e × IsPositive e) entry_said_so es (with_positive es h all)

with_by : (objective : Bool) (said : Said (List Entry)) (combo : Combination)
    → (elim said as (λ _. Said Combination) [ Ok entries ↦ Ok (combination objective entries) | Err r ↦ Err r ]) ≡ Ok combo → (es : List Entry) × (said ≡ Ok es) × (combination objective es ≡ combo)
with_by objective (Ok es) combo e = (es, refl, cc)
with_by objective (Err r) combo e = absurd cc

abbrev IsToldSo : Bool → List Word → Combination → Type 0
IsToldSo objective ws combo = (ws ≡ words combo.entries) × (combo.objective ≡ objective) × IsCombination combo

entries_line_told : (objective : Bool) (ws : List Word) (combo : Combination) → with_entries objective ws ≡ Ok combo → IsToldSo objective ws combo
entries_line_told objective ws combo e =
    let parts = with_by objective (entries_said ws) combo e in
    let told = entries_told_so ws parts.0 parts.1 in
    subst (IsToldSo objective ws) parts.2 (told.0, refl, (told.1, told.2))

entries_line_said : (objective : Bool) (es : List Entry) → AreEntries es → All IsRowEntry es → with_entries objective (words es) ≡ Ok (combination objective es)
entries_line_said objective es h all =
    ap (λ (s : Said (List Entry)). elim s as (λ _. Said Combination) [ Ok entries ↦ Ok (combination objective entries) | Err r ↦ Err r ]) (entries_said_so es h all)

abbrev IsOf : List Word → Combination → Type 0
IsOf ws combo = (ws ≡ objective_words combo.objective ++ words combo.entries) × IsCombination combo

from_entries : (objective : Bool) (front ws : List Word) (combo : Combination) → front ≡ objective_words objective → IsToldSo objective ws combo → IsOf (front ++ ws) combo
from_entries objective front ws combo is told =
    (ap₂ (λ (f : List Word) (w : List Word). f ++ w) (is ∙ ap objective_words (sym told.1)) told.0, told.2)

combination_by : (t : Bool) (word : Word) (ws : List Word) (combo : Combination) → bytes_eq word (111 ∷ []) ≡ t
    → (if t then with_entries true ws else with_entries false (word ∷ ws)) ≡ Ok combo → IsOf (word ∷ ws) combo
combination_by true word ws combo is e =
    from_entries true (word ∷ []) ws combo (ap (λ w. w ∷ []) (bytes_told word (111 ∷ []) is)) (entries_line_told true ws combo e)
combination_by false word ws combo is e = from_entries false [] (word ∷ ws) combo refl (entries_line_told false (word ∷ ws) combo e)

combination_told : (ws : List Word) (combo : Combination) → combination_said ws ≡ Ok combo → IsOf ws combo
combination_told [] combo e = let same : combination false [] ≡ combo = cc in subst (IsOf []) same (refl, (tt, All-nil IsRowEntry))
combination_told (word ∷ ws) combo e = combination_by (bytes_eq word (111 ∷ [])) word ws combo refl e

not_objective : (e : Entry) → bytes_eq (entry_word first_style e) (111 ∷ []) ≡ false
not_objective e = by e.row
  where
    by : (row : RowId) → bytes_eq (numbered row ++ 61 ∷ number_word e.by) (111 ∷ []) ≡ false
    by (id.Row n) = refl
    by (id.Uncertain n) = refl
    by (id.Cut n) = refl

combination_said_by : (objective : Bool) (es : List Entry) → AreEntries es → All IsRowEntry es → combination_said (objective_words objective ++ words es) ≡ Ok (combination objective es)
combination_said_by true es h all = entries_line_said true es h all
combination_said_by false [] h all = refl
combination_said_by false (e ∷ es) h all =
    ap (λ (t : Bool). if t then with_entries true (words es) else with_entries false (words (e ∷ es))) (not_objective e) ∙ entries_line_said false (e ∷ es) h all

-- ---- lines

abbrev pub IsCloseTold : (Combination → Type 0) → Line → Node → Type 0
IsCloseTold Is ws node = (ws ≡ line_of node) × IsOne Close Is node

pub combination_line_told : (ws : Line) (node : Node) → said_as Close (said_behind (codes "close" ∷ []) combination_said ws) ≡ Ok node → IsCloseTold IsCombination ws node
combination_line_told ws node e =
    let inner = as_told Close (said_behind (codes "close" ∷ []) combination_said ws) node e in
    let behind = behind_told (codes "close") combination_said ws inner.0 inner.1 in
    let told = combination_told behind.rest inner.0 behind.says in
    (behind.line ∙ ap (λ rest. codes "close" ∷ rest) told.0 ∙ ap line_of inner.2, (inner.0, inner.2, told.1))

pub combination_line_said : (combo : Combination) → IsCombination combo → said_as Close (said_behind (codes "close" ∷ []) combination_said (close_line first_style combo)) ≡ Ok (Close combo)
combination_line_said combo h =
    ap (said_as Close) (behind_said (codes "close") combination_said (objective_words combo.objective ++ words combo.entries) ∙ combination_said_by combo.objective combo.entries h.0 h.1)

pub plain_line_told : (ws : Line) (node : Node) → said_as Close (said_behind (codes "close" ∷ []) (with_entries false) ws) ≡ Ok node → IsCloseTold IsPlain ws node
plain_line_told ws node e =
    let inner = as_told Close (said_behind (codes "close" ∷ []) (with_entries false) ws) node e in
    let behind = behind_told (codes "close") (with_entries false) ws inner.0 inner.1 in
    let told = entries_line_told false behind.rest inner.0 behind.says in (
      behind.line ∙ ap₂ (λ (o : Bool) (rest : List Word). codes "close" ∷ objective_words o ++ rest) (sym told.1) told.0 ∙ ap line_of inner.2,
      (inner.0, inner.2, (told.1, told.2)),
    )

pub plain_line_said : (combo : Combination) → IsPlain combo → said_as Close (said_behind (codes "close" ∷ []) (with_entries false) (close_line first_style combo)) ≡ Ok (Close combo)
plain_line_said combo (plain, h) =
    ap (said_as Close) (
    ap (λ (o : Bool). said_behind (codes "close" ∷ []) (with_entries false) (codes "close" ∷ objective_words o ++ words combo.entries)) plain
    ∙ behind_said (codes "close") (with_entries false) (words combo.entries)
    ∙ entries_line_said false combo.entries h.0 h.1
    ∙ ap (λ (o : Bool). Ok (combination o combo.entries)) (sym plain)
    )
