-- Decimal numbers: how they are spelled, what their value is, and which of them stay.
use Rattle.std.specs.Prelude.{◌≡◌, ℕ, suc, ◌+◌, ◌*◌, ◌^◌, ◌≤◌, ℤ, pos, negsuc, neg_ℤ, Bool, List, [], ◌∷◌, ◌++◌, ◌⊎◌, ◌==◌, length, IsTrue, if◌then◌else◌}
use Rattle.std.specs.List.{list_all}
use Rattle.qm_math.specs.Fraction.{Fraction}
use Rattle.qm_frac.specs.Lowest.{IsInRange, lowest}
use Rattle.qm_text.specs.Digits.{is_numeral, numeral_value}

-- the digits before the point and behind it, and the exponent
pub record Decimal : Type 0 where
  pub before : List ℕ
  pub behind : List ℕ
  pub exponent : ℤ

-- digits, one at least, with a point before, among or behind them, or with none: `.5`, `1.5`, `1.`, `12`
abbrev pub SpellsDigits : List ℕ → List ℕ → List ℕ → Type 0
SpellsDigits word before behind =
    IsTrue (is_numeral (before ++ behind))
    × ((word ≡ before ++ 46 ∷ behind) ⊎ ((word ≡ before) × (behind ≡ [])))

-- digits, one at least, with `+`, `-` or nothing before them
abbrev pub SpellsPower : List ℕ → ℤ → Type 0
SpellsPower word power =
    (digits : List ℕ)
    × IsTrue (is_numeral digits)
    × (((word ≡ 45 ∷ digits) × (power ≡ neg_ℤ (pos (numeral_value digits))))
    ⊎ (((word ≡ 43 ∷ digits) ⊎ (word ≡ digits)) × (power ≡ pos (numeral_value digits))))

-- nothing; or `e` or `E`, and a power of ten
abbrev pub SpellsExponent : List ℕ → ℤ → Type 0
SpellsExponent word exponent =
    ((word ≡ []) × (exponent ≡ pos 0))
    ⊎ ((power : List ℕ) × ((word ≡ 101 ∷ power) ⊎ (word ≡ 69 ∷ power)) × SpellsPower power exponent)

-- digits, and behind them an exponent or nothing
pub record SpellsDecimal (word : List ℕ) (d : Decimal) : Type 0 where
  pub front : List ℕ
  pub back : List ℕ
  pub parts : word ≡ front ++ back
  pub digits : SpellsDigits front d.before d.behind
  pub exponent : SpellsExponent back d.exponent

-- all digits, in their order
abbrev pub digits_of : Decimal → List ℕ
digits_of d = d.before ++ d.behind

-- how many tens an exponent multiplies by, and how many it divides by
abbrev pub tens_above : ℤ → ℕ
tens_above (pos n) = n
tens_above (negsuc n) = 0

abbrev pub tens_below : ℤ → ℕ
tens_below (pos n) = 0
tens_below (negsuc n) = suc n

-- n with tens multiplied to it and divided out of it, in lowest terms
abbrev pub with_tens : ℕ → ℕ → ℕ → Fraction
with_tens n above below = lowest (pos (n * 10 ^ above)) (10 ^ below)

-- the number that all digits spell, over a ten for each digit behind the point, and with the tens of the exponent
abbrev pub decimal_value : Decimal → Fraction
decimal_value d = with_tens (numeral_value (digits_of d)) (tens_above d.exponent) (length d.behind + tens_below d.exponent)

abbrev pub is_zero_digit : ℕ → Bool
is_zero_digit digit = digit == 48

-- the digits without the zeros in front
abbrev pub without_first_zeros : List ℕ → List ℕ
without_first_zeros [] = []
without_first_zeros (digit ∷ digits) = if is_zero_digit digit then without_first_zeros digits else digit ∷ digits

-- the digits without the zeros at the end
abbrev pub without_last_zeros : List ℕ → List ℕ
without_last_zeros [] = []
without_last_zeros (digit ∷ digits) = if list_all is_zero_digit (digit ∷ digits) then [] else digit ∷ without_last_zeros digits

-- at most 38 digits but for the zeros in front and at the end, and a value that is a fraction of the program
pub record Stays (d : Decimal) : Type 0 where
  pub few : length (without_last_zeros (without_first_zeros (digits_of d))) ≤ 38
  pub fits : IsInRange (decimal_value d)
