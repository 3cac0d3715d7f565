-- The words of a combination tell it.
use Rattle.std.proofs.Common.{◌≡◌, ℕ, ◌+◌, ◌<◌, Bool, true, false, List, [], ◌∷◌, ◌++◌, get_or, length, map, refl, sym, ap, arith, unsigned_abs}
use Rattle.std.specs.Prelude.{◌^◌, codes, max}
use Rattle.std.specs.Fmt.{decimal, signed_decimal}
use Rattle.std.proofs.lemmas.List.{length-map}
use Rattle.qm_math.proofs.Lists.{cons-rest}
use Rattle.qm_model.specs.declared.range.Range.{Range}
use Rattle.qm_model.specs.declared.row_id.RowId.{RowId}
use Rattle.qm_model.specs.declared.row_id.RowId.TheVariants as id
use Rattle.qm_trees.specs.declared.combination.Entry.{Entry}
use Rattle.qm_trees.specs.Entries.{Combination}
use Rattle.qm_text.specs.Numbers.{number_word}
use Rattle.qm_certfile.specs.Lines.{Word, line_text, text_of}
use Rattle.qm_certfile.specs.Numbers.{greatest, greatest_of_entry, greatest_of_fraction, number_of_row}
use Rattle.qm_certfile.specs.Styles.{first_style, numbered}
use Rattle.qm_certfile.specs.TreeLines.{Lines, close_line, entry_word, joined, objective_words}
use Rattle.qm_certfile.proofs.NumberWords.{AreVisible, Lacks, apart, decimal_same, lacks_decimal, not_empty, number_same, signed_same, split_at_first, visible_append, visible_decimal, visible_number, visible_signed, visible_word}
use Rattle.qm_certfile.proofs.LineSplits.{AreWords, IsTold, Spells, first_line, first_of_line, parts_told, same_words, visible_words, word_same, words_append, words_behind}

pub wholes_spell : Spells signed_decimal unsigned_abs
wholes_spell = record { visible = visible_signed; same = signed_same }

pub fractions_spell : Spells number_word greatest_of_fraction
fractions_spell = record { visible = visible_number; same = number_same }

-- ---- ranges

range_words : (r : Range) → unsigned_abs r.low < 10 ^ 64 → unsigned_abs r.high < 10 ^ 64 → AreWords (codes "range" ∷ signed_decimal r.low ∷ signed_decimal r.high ∷ [])
range_words r h k = (visible_word (codes "range") tt, (visible_signed r.low h, (visible_signed r.high k, tt)))

-- the line of a range tells it
pub range_told : (r s : Range) (b c x y : List ℕ) → unsigned_abs r.low < 10 ^ 64 → unsigned_abs r.high < 10 ^ 64 → unsigned_abs s.low < 10 ^ 64 → unsigned_abs s.high < 10 ^ 64
    → (line_text (codes "range" ∷ signed_decimal r.low ∷ signed_decimal r.high ∷ []) ++ b) ++ x ≡ (line_text (codes "range" ∷ signed_decimal s.low ∷ signed_decimal s.high ∷ []) ++ c) ++ y
    → (r ≡ s) × (b ++ x ≡ c ++ y)
range_told r s b c x y h k l m e =
    let line = first_line (codes "range") (codes "range") (signed_decimal r.low ∷ signed_decimal r.high ∷ []) (signed_decimal s.low ∷ signed_decimal s.high ∷ []) b c x y
    (range_words r h k) (range_words s l m) e in
    let low = signed_same r.low s.low h l (word_same 1 line.0) in
    let high = signed_same r.high s.high k m (word_same 2 line.0) in
    (λ i. record { low = low i; high = high i }, line.1)

-- ---- counts of parts

-- a line that ends with how many parts follow, and the parts
pub count_told : (A : Type 0) (lines : A → Lines) (size : A → ℕ) (word : Word) (ps : List ((a : A) × IsTold A lines size a)) (qs : List A) (place : ℕ) (x y : List ℕ) → AreVisible word
    → max (length (map size (map (λ e. e.0) ps))) (greatest (map size (map (λ e. e.0) ps))) < 10 ^ 64 → max (length (map size qs)) (greatest (map size qs)) < 10 ^ 64
    → (line_text (word ∷ decimal (length (map lines (map (λ e. e.0) ps))) ∷ []) ++ text_of (joined (map lines (map (λ e. e.0) ps)) place)) ++ x
    ≡ (line_text (word ∷ decimal (length (map lines qs)) ∷ []) ++ text_of (joined (map lines qs) place)) ++ y
    → (map (λ e. e.0) ps ≡ qs) × (x ≡ y)
count_told A lines size word ps qs place x y visible h k e =
    let parts = map (λ (e : (a : A) × IsTold A lines size a). e.0) ps in
    let some = length-map parts lines in
    let others = length-map qs lines in
    let some_numbers = length-map parts size in
    let other_numbers = length-map qs size in
    let known = length-map ps (λ (e : (a : A) × IsTold A lines size a). e.0) in
    let m : length (map lines parts) < 10 ^ 64 = omega (arith, some, some_numbers) in
    let n : length (map lines qs) < 10 ^ 64 = omega (arith, others, other_numbers) in
    let line = first_line word word (decimal (length (map lines parts)) ∷ []) (decimal (length (map lines qs)) ∷ []) (text_of (joined (map lines parts) place)) (text_of (joined (map lines qs) place)) x y
    (visible, (visible_decimal (length (map lines parts)) m, tt)) (visible, (visible_decimal (length (map lines qs)) n, tt)) e in
    let count = decimal_same (length (map lines parts)) (length (map lines qs)) m n (word_same 1 line.0) in
    parts_told A lines size ps qs place x y (omega (arith, count, some, others, known)) (omega arith) (omega arith) line.1

-- ---- rows

visible_row : (r : RowId) → number_of_row r < 10 ^ 64 → AreVisible (numbered r)
visible_row (id.Row n) h = (omega arith, visible_decimal (n + 1) h)
visible_row (id.Uncertain n) h = (omega arith, visible_decimal (n + 1) h)
visible_row (id.Cut n) h = (omega arith, visible_decimal (n + 1) h)

lacks_row : (r : RowId) → number_of_row r < 10 ^ 64 → Lacks 61 (numbered r)
lacks_row (id.Row n) h = (λ e. omega arith, lacks_decimal 61 (λ c p q e. omega arith) (n + 1) h)
lacks_row (id.Uncertain n) h = (λ e. omega arith, lacks_decimal 61 (λ c p q e. omega arith) (n + 1) h)
lacks_row (id.Cut n) h = (λ e. omega arith, lacks_decimal 61 (λ c p q e. omega arith) (n + 1) h)

row_same : (r s : RowId) → number_of_row r < 10 ^ 64 → number_of_row s < 10 ^ 64 → numbered r ≡ numbered s → r ≡ s
row_same (id.Row m) (id.Row n) p q e = ap id.Row (omega (arith, decimal_same (m + 1) (n + 1) p q (cons-rest _ _ _ _ e)))
row_same (id.Row m) (id.Uncertain n) p q e = absurd (apart 114 117 tt e)
row_same (id.Row m) (id.Cut n) p q e = absurd (apart 114 99 tt e)
row_same (id.Uncertain m) (id.Row n) p q e = absurd (apart 117 114 tt e)
row_same (id.Uncertain m) (id.Uncertain n) p q e = ap id.Uncertain (omega (arith, decimal_same (m + 1) (n + 1) p q (cons-rest _ _ _ _ e)))
row_same (id.Uncertain m) (id.Cut n) p q e = absurd (apart 117 99 tt e)
row_same (id.Cut m) (id.Row n) p q e = absurd (apart 99 114 tt e)
row_same (id.Cut m) (id.Uncertain n) p q e = absurd (apart 99 117 tt e)
row_same (id.Cut m) (id.Cut n) p q e = ap id.Cut (omega (arith, decimal_same (m + 1) (n + 1) p q (cons-rest _ _ _ _ e)))

-- no row is named by the word for the objective
no_row : (r : RowId) (bs : List ℕ) → numbered r ++ bs ≡ codes "o" → ⊥
no_row (id.Row n) bs e = apart 114 111 tt e
no_row (id.Uncertain n) bs e = apart 117 111 tt e
no_row (id.Cut n) bs e = apart 99 111 tt e

-- ---- entries

visible_entry : (e : Entry) → greatest_of_entry e < 10 ^ 64 → AreVisible (entry_word first_style e)
visible_entry e h = visible_append (numbered e.row) (61 ∷ number_word e.by) (visible_row e.row (omega arith)) (omega arith, visible_number e.by (omega arith))

entry_same : (e f : Entry) → greatest_of_entry e < 10 ^ 64 → greatest_of_entry f < 10 ^ 64 → entry_word first_style e ≡ entry_word first_style f → e ≡ f
entry_same e f p q is =
    let parts = split_at_first 61 (numbered e.row) (numbered f.row) (number_word e.by) (number_word f.by) (lacks_row e.row (omega arith)) (lacks_row f.row (omega arith)) is in
    let row = row_same e.row f.row (omega arith) (omega arith) parts.0 in
    let by = number_same e.by f.by (omega arith) (omega arith) parts.1 in
    λ i. record { row = row i; by = by i }

pub entries_spell : Spells (entry_word first_style) greatest_of_entry
entries_spell = record { visible = visible_entry; same = entry_same }

-- ---- combinations

abbrev entry_words : List Entry → List Word
entry_words es = map (entry_word first_style) es

visible_objective : (o : Bool) → AreWords (objective_words o)
visible_objective true = (visible_word (codes "o") tt, tt)
visible_objective false = tt

visible_close : (c : Combination) → greatest (map greatest_of_entry c.entries) < 10 ^ 64 → AreWords (close_line first_style c)
visible_close c h = (
  visible_word (codes "close") tt,
  words_append (objective_words c.objective) (entry_words c.entries) (visible_objective c.objective) (visible_words (entry_word first_style) greatest_of_entry entries_spell c.entries h),
)

no_objective : (es fs : List Entry) → codes "o" ∷ entry_words es ≡ entry_words fs → ⊥
no_objective es [] e = not_empty (codes "o") (entry_words es) (sym e)
no_objective es (f ∷ fs) e = no_row f.row (61 ∷ number_word f.by) (sym (word_same 0 e))

by_words : (o p : Bool) (es fs : List Entry) → greatest (map greatest_of_entry es) < 10 ^ 64 → greatest (map greatest_of_entry fs) < 10 ^ 64
    → objective_words o ++ entry_words es ≡ objective_words p ++ entry_words fs → (o ≡ p) × (es ≡ fs)
by_words true true es fs h k e = (refl, same_words (entry_word first_style) greatest_of_entry entries_spell es fs h k (words_behind 1 e))
by_words true false es fs h k e = absurd (no_objective es fs e)
by_words false true es fs h k e = absurd (no_objective fs es (sym e))
by_words false false es fs h k e = (refl, same_words (entry_word first_style) greatest_of_entry entries_spell es fs h k e)

close_same : (c d : Combination) → greatest (map greatest_of_entry c.entries) < 10 ^ 64 → greatest (map greatest_of_entry d.entries) < 10 ^ 64
    → close_line first_style c ≡ close_line first_style d → c ≡ d
close_same c d h k e =
    let both = by_words c.objective d.objective c.entries d.entries h k (words_behind 1 e) in
    let objective = both.0 in
    let entries = both.1 in
    λ i. record { objective = objective i; entries = entries i }

-- how a line that closes begins
pub close_first : (c : Combination) (x : List ℕ) → get_or (text_of (close_line first_style c ∷ []) ++ x) 0 0 ≡ 99
close_first c x = first_of_line 99 (codes "lose") (objective_words c.objective ++ entry_words c.entries) [] x

-- a line that closes tells the combination, and where it ends
pub close_told : (c d : Combination) (x y : List ℕ) → greatest (map greatest_of_entry c.entries) < 10 ^ 64 → greatest (map greatest_of_entry d.entries) < 10 ^ 64
    → text_of (close_line first_style c ∷ []) ++ x ≡ text_of (close_line first_style d ∷ []) ++ y → (c ≡ d) × (x ≡ y)
close_told c d x y h k e =
    let line = first_line (codes "close") (codes "close") (objective_words c.objective ++ entry_words c.entries) (objective_words d.objective ++ entry_words d.entries) [] [] x y
    (visible_close c h) (visible_close d k) e in
    (close_same c d h k line.0, line.1)
