-- How single words are spelled.
use Rattle.std.specs.Prelude.{◌≡◌, ℕ, ◌+◌, ◌-◌, ◌*◌, Bool, false, not, List, [], ◌∷◌, ◌&&◌, ◌^◌, length, codes, nat_le, IsTrue}
use Rattle.std.specs.Char.{is_ascii_alphabetic, is_ascii_alphanumeric, is_ascii_digit}
use Rattle.std.specs.List.{list_all, list_any}
use Rattle.std.specs.Str.{str_eq_ignore_ascii_case}

-- the words that are no names, in upper case
unfoldable pub reserved : List (List ℕ)
reserved =
    codes "MAXIMIZE" ∷ codes "MAX" ∷ codes "MINIMIZE" ∷ codes "MIN" ∷ codes "SUBJECT"
    ∷ codes "TO" ∷ codes "ST" ∷ codes "UNCERTAINTY" ∷ codes "BOUNDS" ∷ codes "GENERALS"
    ∷ codes "GENERAL" ∷ codes "BINARIES" ∷ codes "BINARY" ∷ codes "EXISTS" ∷ codes "ALL"
    ∷ codes "ORDER" ∷ codes "END" ∷ codes "INF" ∷ codes "INFINITY" ∷ codes "FREE" ∷ []

-- the word is no name, in whatever case
unfoldable pub is_reserved : List ℕ → Bool
is_reserved word = list_any (str_eq_ignore_ascii_case word) reserved

-- a letter, and letters and digits behind it
unfoldable pub is_identifier : List ℕ → Bool
is_identifier [] = false
is_identifier (letter ∷ others) = is_ascii_alphabetic letter && list_all is_ascii_alphanumeric others

-- an identifier that isn't reserved
unfoldable pub is_name : List ℕ → Bool
is_name word = is_identifier word && not (is_reserved word)

-- a number has one to six digits
unfoldable pub is_number : List ℕ → Bool
is_number word = nat_le 1 (length word) && nat_le (length word) 6 && list_all is_ascii_digit word

-- the number that digits spell in base ten
unfoldable pub value_of : List ℕ → ℕ
value_of [] = 0
value_of (digit ∷ digits) = (digit - 48) * 10 ^ length digits + value_of digits

-- the word spells the number
abbrev pub IsNumber : List ℕ → ℕ → Type 0
IsNumber word n = IsTrue (is_number word) × (n ≡ value_of word)
