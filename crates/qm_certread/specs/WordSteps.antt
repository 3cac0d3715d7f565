-- What small steps of the reader do. No clause of `read` cites this.
use Rattle.std.specs.Prelude.{◌≡◌, ◌≢◌, ◌⊎◌, ◌++◌, true, false, not, ◌&&◌, ◌==◌, IsTrue, slice_index, ℕ, zero, suc, ◌^◌, ℤ, pos, negsuc, nat_lt, if◌then◌else◌, Bool, List, [], ◌∷◌, Option, None, Some, Result, Ok, Err}
use Rattle.qm_frac.specs.Signs.{signed}
use Rattle.qm_text.specs.Digits.{is_numeral, numeral_value}
use Rattle.qm_text.specs.declared.fault.NumberFault.{NumberFault}
use Rattle.qm_text.specs.declared.fault.NumberFault.TheVariants as number
use Rattle.qm_certread.specs.declared.fault.Misread.{Misread}
use Rattle.qm_certread.specs.declared.fault.Misread.TheVariants as rule
use Rattle.qm_certread.specs.declared.fault.Unread.{Unread}
use Rattle.qm_certread.specs.declared.fault.Unread.TheVariants as unread
use Rattle.qm_certfile.specs.Lines.{Line}
use Rattle.qm_certread.specs.Pieces.{words_of}
use Rattle.qm_certread.specs.Spelling.{Said, Written}

-- the words of what stands behind one: none, or a space and a line
abbrev pub words_behind : List ℕ → Line
words_behind [] = []
words_behind (space ∷ line) = words_of line

abbrev pub fault_of : NumberFault → Misread
fault_of number.NotNumber = rule.Text
fault_of number.Leaves = rule.Number

-- what is answered is what is said, unless memory ran out
abbrev pub Fails : {A : Type 0} → Unread → Said A → Type 0
Fails (unread.Misread fault) said = said ≡ Err fault
Fails unread.Memory said = Unit {0}

abbrev pub Gives : {A : Type 0} → Result A Unread → Said A → Type 0
Gives (Ok a) said = said ≡ Ok a
Gives (Err e) said = Fails e said

-- a row's number among its kind, counted from 0
abbrev pub row_number_said : Option ℤ → Said ℕ
row_number_said None = Err rule.Text
row_number_said (Some (pos zero)) = Err rule.Text
row_number_said (Some (pos (suc n))) = if nat_lt (suc n) (2 ^ 32) then Ok n else Err rule.Number
row_number_said (Some (negsuc n)) = Err rule.Number

-- digits, one at least, the first of which isn't 0
abbrev pub is_counting : List ℕ → Bool
is_counting digits = is_numeral digits && not (slice_index digits 0 == 48)

-- what stands behind a minus, if one stands there
abbrev pub IsSignedDigits : List ℕ → Bool → List ℕ → Type 0
IsSignedDigits word minus digits = ((minus ≡ true) × (word ≡ 45 ∷ digits)) ⊎ ((minus ≡ false) × (word ≡ digits) × (slice_index word 0 ≢ 45))

-- the row is that of this kind, sign and digits
abbrev pub IsRow : Option Written → ℕ → Bool → List ℕ → Type 0
IsRow row kind minus digits = (row ≡ Some (record { kind = kind; number = signed minus (numeral_value digits) })) × IsTrue (is_counting digits)

-- the first digit that differs is lower
abbrev pub digits_before : List ℕ → List ℕ → Bool
digits_before [] other = false
digits_before (a ∷ rest) [] = false
digits_before (a ∷ rest) (b ∷ bs) = if a == b then digits_before rest bs else nat_lt a b

-- items that were said, and a number that was outside its type or not, before what others say
abbrev pub said_before : {A : Type 0} → Bool → List A → Said (List A) → Said (List A)
said_before outside items (Err fault) = Err fault
said_before true items (Ok more) = Err rule.Number
said_before false items (Ok more) = Ok (items ++ more)
