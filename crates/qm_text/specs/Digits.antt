-- Digits, and the number that they spell.
use Rattle.std.specs.Prelude.{ℕ, ◌+◌, ◌-◌, ◌*◌, ◌^◌, Bool, not, ◌&&◌, ◌||◌, ◌==◌, List, [], ◌∷◌, length, nat_lt, slice_index}
use Rattle.std.specs.Char.{is_ascii_digit}
use Rattle.std.specs.List.{list_all}

-- each byte is a digit
abbrev pub are_digits : List ℕ → Bool
are_digits bytes = list_all is_ascii_digit bytes

-- one digit at least, and nothing else
abbrev pub is_numeral : List ℕ → Bool
is_numeral bytes = nat_lt 0 (length bytes) && are_digits bytes

-- a numeral without a leading zero: a 0 in front stands alone
abbrev pub is_plain_numeral : List ℕ → Bool
is_plain_numeral bytes = is_numeral bytes && ((length bytes == 1) || not (slice_index bytes 0 == 48))

-- the number that digits spell in base ten
unfoldable pub numeral_value : List ℕ → ℕ
numeral_value [] = 0
numeral_value (digit ∷ digits) = (digit - 48) * 10 ^ length digits + numeral_value digits
