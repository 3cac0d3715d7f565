-- How long numbers are, as the code finds it. No public clause cites this.
use Rattle.std.specs.Prelude.{ℕ, ◌+◌, List, [], ◌∷◌, ◌==◌, drop, Option, Some, None, if◌then◌else◌}
use Rattle.std.specs.Char.{is_ascii_digit}
use Rattle.std.specs.List.{prefix_len}
use Rattle.qm_lex.specs.Bytes.{begins_exponent, is_sign}

-- how many digits stand at the front
abbrev pub digits_at : List ℕ → ℕ
digits_at text = prefix_len is_ascii_digit text

-- one more, where there is something
abbrev pub one_more : ℕ → ℕ
one_more n = if n == 0 then 0 else n + 1

-- how long the digits at the front are, with their sign, or 0 where there are none
unfoldable pub signed_digits_at : List ℕ → ℕ
signed_digits_at [] = 0
signed_digits_at (byte ∷ text) = if is_sign byte then one_more (digits_at text) else digits_at (byte ∷ text)

-- how long the exponent at the front is, or 0 where there is none
unfoldable pub exponent_at : List ℕ → ℕ
exponent_at [] = 0
exponent_at (byte ∷ text) = if begins_exponent byte then one_more (signed_digits_at text) else 0

-- how long the digits and the exponent at the front are
unfoldable pub decimals_at : List ℕ → ℕ
decimals_at text = digits_at text + exponent_at (drop (digits_at text) text)

-- how long that is which stands at the front behind digits of a number
unfoldable pub tail_at : List ℕ → ℕ
tail_at [] = 0
tail_at (byte ∷ text) = if byte == 46 then 1 + decimals_at text else exponent_at (byte ∷ text)

-- how long the number at the front is that begins with a point
unfoldable pub point_at : List ℕ → Option ℕ
point_at [] = None
point_at (byte ∷ text) =
    if byte == 46 then (if digits_at text == 0 then None else Some (1 + decimals_at text)) else None

-- how long the number at the front is
unfoldable pub number_at : List ℕ → Option ℕ
number_at text =
    if digits_at text == 0 then point_at text
    else Some (digits_at text + tail_at (drop (digits_at text) text))
