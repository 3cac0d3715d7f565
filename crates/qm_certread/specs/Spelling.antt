-- The words of numbers and entries. A word is rightly spelt before its number is one of a type: `Text` says that it isn't
-- spelt so, `Number` that its number is outside the type.
use Rattle.std.specs.Prelude.{ℕ, zero, suc, ◌-◌, ◌^◌, ℤ, pos, negsuc, Bool, true, false, ◌&&◌, ◌||◌, ◌==◌, nat_le, nat_lt, int_lt, List, [], ◌∷◌, length, Option, None, Some, Result, Ok, Err, slice_index, unsigned_abs, if◌then◌else◌}
use Rattle.std.specs.Option.{option_map}
use Rattle.std.specs.Str.{bytes_eq}
use Rattle.qm_math.specs.Fraction.{Fraction}
use Rattle.qm_frac.specs.Gcd.{gcd_of}
use Rattle.qm_model.specs.declared.row_id.RowId.{RowId}
use Rattle.qm_model.specs.declared.row_id.RowId.TheVariants as id
use Rattle.qm_text.specs.Digits.{is_plain_numeral, numeral_value}
use Rattle.qm_trees.specs.declared.combination.Entry.{Entry}
use Rattle.qm_trees.specs.Entries.{Combination}
use Rattle.qm_certread.specs.declared.fault.Misread.{Misread}
use Rattle.qm_certread.specs.declared.fault.Misread.TheVariants as rule
use Rattle.qm_certfile.specs.Lines.{Word}

-- what words say, or the first of the rules that they break: `Text` before `Number`
abbrev pub Said : Type 0 → Type 0
Said A = Result A Misread

-- ---- several words: one that is misspelt comes before one that is outside its type

abbrev pub is_text : Misread → Bool
is_text rule.Text = true
is_text rule.Number = false

abbrev pub first_of : Misread → Misread → Misread
first_of r s = if is_text s then s else r

abbrev pub with_both : {A B C : Type 0} → (A → B → C) → Said A → Said B → Said C
with_both f (Ok a) (Ok b) = Ok (f a b)
with_both f (Ok a) (Err s) = Err s
with_both f (Err r) (Ok b) = Err r
with_both f (Err r) (Err s) = Err (first_of r s)

abbrev pub each : {A : Type 0} → (Word → Said A) → List Word → Said (List A)
each f [] = Ok []
each f (word ∷ words) = with_both (λ a rest. a ∷ rest) (f word) (each f words)

-- just so many words
abbrev pub each_of : {A : Type 0} → (Word → Said A) → ℕ → List Word → Said (List A)
each_of f n words = if length words == n then each f words else Err rule.Text

-- just one word
abbrev pub one : {A : Type 0} → (Word → Said A) → List Word → Said A
one f [] = Err rule.Text
one f (word ∷ []) = f word
one f (word ∷ next ∷ words) = Err rule.Text

-- ---- parts of words

-- with one byte more in front
abbrev pub with_front : ℕ → Option (Word × Word) → Option (Word × Word)
with_front byte None = None
with_front byte (Some parts) = Some (byte ∷ parts.0, parts.1)

-- what stands before the first such byte and behind it
abbrev pub cut_at : ℕ → Word → Option (Word × Word)
cut_at mark [] = None
cut_at mark (byte ∷ word) = if byte == mark then Some ([], word) else with_front byte (cut_at mark word)

-- ---- numbers, of any size

-- digits without a leading zero
abbrev pub natural_of : Word → Option ℕ
natural_of word = if is_plain_numeral word then Some (numeral_value word) else None

abbrev pub below_zero : Option ℕ → Option ℤ
below_zero None = None
below_zero (Some zero) = None
below_zero (Some (suc n)) = Some (negsuc n)

-- the same, with a minus before a number below 0
abbrev pub whole_of : Word → Option ℤ
whole_of [] = None
whole_of (byte ∷ word) = if byte == 45 then below_zero (natural_of word) else option_map pos (natural_of (byte ∷ word))

abbrev pub is_in_range : Fraction → Bool
is_in_range a = nat_lt (unsigned_abs a.num) (2 ^ 127) && nat_lt a.den (2 ^ 127)

-- in lowest terms over 2 at least; or with a number that is out of range by itself
abbrev pub is_broken : Fraction → Bool
is_broken a = nat_le 2 a.den && (if is_in_range a then gcd_of (unsigned_abs a.num) a.den == 1 else true)

abbrev pub quotient_of : Option ℤ → Option ℕ → Option Fraction
quotient_of None den = None
quotient_of (Some num) None = None
quotient_of (Some num) (Some den) = let a : Fraction = record { num = num; den = den } in if is_broken a then Some a else None

abbrev pub over_one : ℤ → Fraction
over_one n = record { num = n; den = 1 }

-- a whole number, or `A/B`
abbrev pub fraction_of : Word → Option Fraction
fraction_of word = elim (cut_at 47 word) [ None ↦ option_map over_one (whole_of word) | Some parts ↦ quotient_of (whole_of parts.0) (natural_of parts.1) ]

-- ---- numbers of a type

abbrev pub of_type : {A B : Type 0} → (A → Option B) → Option A → Said B
of_type f None = Err rule.Text
of_type f (Some a) = elim (f a) [ None ↦ Err rule.Number | Some b ↦ Ok b ]

-- from -2 ^ 63 to 2 ^ 63 - 1
abbrev pub as_value : ℤ → Option ℤ
as_value (pos n) = if nat_lt n (2 ^ 63) then Some (pos n) else None
as_value (negsuc n) = if nat_lt n (2 ^ 63) then Some (negsuc n) else None

-- from 0 to 2 ^ 32 - 1
abbrev pub as_count : ℤ → Option ℕ
as_count (pos n) = if nat_lt n (2 ^ 32) then Some n else None
as_count (negsuc n) = None

abbrev pub as_fraction : Fraction → Option Fraction
as_fraction a = if is_in_range a then Some a else None

-- a value of a variable
abbrev pub value_word : Word → Said ℤ
value_word word = of_type as_value (whole_of word)

abbrev pub count_word : Word → Said ℕ
count_word word = of_type as_count (whole_of word)

abbrev pub fraction_word : Word → Said Fraction
fraction_word word = of_type as_fraction (fraction_of word)

-- ---- entries

-- A row as it is written: its kind, and a number of any size. Rows come before uncertainty rows, and these before cuts.
pub record Written : Type 0 where
  pub kind : ℕ
  pub number : ℤ

abbrev pub kind_of : ℕ → Option ℕ
kind_of letter = if letter == 114 then Some 0 else (if letter == 117 then Some 1 else (if letter == 99 then Some 2 else None))

-- there is no row 0
abbrev pub written : Option ℕ → Option ℤ → Option Written
written None n = None
written (Some kind) None = None
written (Some kind) (Some (pos zero)) = None
written (Some kind) (Some (pos (suc n))) = Some (record { kind = kind; number = pos (suc n) })
written (Some kind) (Some (negsuc n)) = Some (record { kind = kind; number = negsuc n })

-- `r`, `u` or `c`, and a whole number
abbrev pub written_row : Word → Option Written
written_row [] = None
written_row (letter ∷ word) = written (kind_of letter) (whole_of word)

abbrev pub row_id : ℕ → ℕ → RowId
row_id zero n = id.Row n
row_id (suc zero) n = id.Uncertain n
row_id (suc (suc k)) n = id.Cut n

-- the row of a number from 1 to 2 ^ 32 - 1
abbrev pub as_row : Written → Option RowId
as_row row = option_map (λ n. row_id row.kind (n - 1)) (as_count row.number)

-- a number above 0: the word of no other one begins with a minus or a zero
abbrev pub multiplier_word : Word → Said Fraction
multiplier_word word = if slice_index word 0 == 45 || slice_index word 0 == 48 then Err rule.Text else fraction_word word

abbrev pub entry_of : RowId → Fraction → Entry
entry_of row by = record { row = row; by = by }

-- `ROW=MULTIPLIER`
abbrev pub entry_said : Word → Said Entry
entry_said word = elim (cut_at 61 word) [ None ↦ Err rule.Text | Some parts ↦ with_both entry_of (of_type as_row (written_row parts.0)) (multiplier_word parts.1) ]

-- the row of an entry, as it is written
abbrev pub entry_row : Word → Option Written
entry_row word = elim (cut_at 61 word) [ None ↦ None | Some parts ↦ written_row parts.0 ]

abbrev pub is_before : Option Written → Option Written → Bool
is_before None s = false
is_before (Some r) None = false
is_before (Some r) (Some s) = nat_lt r.kind s.kind || (r.kind == s.kind && int_lt r.number s.number)

-- each row stands behind the one before, by the numbers that are written, so that none comes twice
abbrev pub are_in_order : List Word → Bool
are_in_order [] = true
are_in_order (word ∷ []) = true
are_in_order (word ∷ next ∷ words) = is_before (entry_row word) (entry_row next) && are_in_order (next ∷ words)

-- entries in the order of their rows
abbrev pub entries_said : List Word → Said (List Entry)
entries_said words = if are_in_order words then each entry_said words else Err rule.Text

abbrev pub combination : Bool → List Entry → Combination
combination objective entries = record { objective = objective; entries = entries }

abbrev pub with_entries : Bool → List Word → Said Combination
with_entries objective words = elim (entries_said words) [ Ok entries ↦ Ok (combination objective entries) | Err r ↦ Err r ]

-- `o` where the objective is in, and entries
abbrev pub combination_said : List Word → Said Combination
combination_said [] = Ok (combination false [])
combination_said (word ∷ words) = if bytes_eq word (111 ∷ []) then with_entries true words else with_entries false (word ∷ words)
