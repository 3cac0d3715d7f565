-- Kinds of bytes.
use Rattle.std.specs.Prelude.{ℕ, Bool, ◌||◌, ◌==◌, codes}
use Rattle.std.specs.Char.{is_ascii_alphabetic, is_ascii_alphanumeric}
use Rattle.std.specs.List.{list_any}

-- a space, a tab, a CR or an LF
abbrev pub is_blank : ℕ → Bool
is_blank byte = (byte == 32) || (byte == 9) || (byte == 13) || (byte == 10)

-- a letter or an underscore
abbrev pub begins_name : ℕ → Bool
begins_name byte = is_ascii_alphabetic byte || (byte == 95)

-- a letter, a digit or one of these marks
abbrev pub continues_name : ℕ → Bool
continues_name byte = is_ascii_alphanumeric byte || list_any (λ mark. mark == byte) (codes "_.[](){}#$%&@!~'")

-- an e in either case
abbrev pub begins_exponent : ℕ → Bool
begins_exponent byte = (byte == 101) || (byte == 69)

-- a plus or a minus
abbrev pub is_sign : ℕ → Bool
is_sign byte = (byte == 43) || (byte == 45)
