-- What small steps of the reader of decimals do. No public clause cites this.
use Rattle.std.specs.Prelude.{◌≡◌, ◌≢◌, ℕ, ◌+◌, ◌-◌, ◌*◌, ◌^◌, Bool, true, false, List, [], ◌∷◌, ◌++◌, ◌⊎◌, ◌==◌, min, slice_index, if◌then◌else◌, Result, MatchResult, ⊤}
use Rattle.memchr.specs.Find.{is_byte, is_byte2}
use Rattle.qm_math.specs.Fraction.{Fraction}
use Rattle.qm_frac.specs.Lowest.{IsInRange}
use Rattle.qm_frac.specs.Signs.{signed}
use Rattle.qm_text.specs.declared.fault.NumberFault.{NumberFault}
use Rattle.qm_text.specs.declared.fault.NumberFault.TheVariants as fault
use Rattle.qm_text.specs.declared.significant.Significant.{Significant}
use Rattle.qm_text.specs.Digits.{numeral_value}
use Rattle.qm_text.specs.Decimals.{Decimal, Stays, decimal_value}

-- no byte of the word passes the test
abbrev pub HasNone : (ℕ → Bool) → List ℕ → Type 0
HasNone test [] = ⊤
HasNone test (byte ∷ word) = (test byte ≡ false) × HasNone test word

-- a word, cut at its first point or at its end
pub record IsCut (word before behind : List ℕ) : Type 0 where
  pub none : HasNone (is_byte 46) before
  pub parts : (word ≡ before ++ 46 ∷ behind) ⊎ ((word ≡ before) × (behind ≡ []))

-- nothing, or a word whose first byte passes the test
abbrev pub IsFrom : (ℕ → Bool) → List ℕ → Type 0
IsFrom test [] = ⊤
IsFrom test (byte ∷ word) = test byte ≡ true

-- a word, cut before its first `e` or `E` or at its end
pub record IsExponentCut (word front back : List ℕ) : Type 0 where
  pub none : HasNone (is_byte2 101 69) front
  pub start : IsFrom (is_byte2 101 69) back
  pub parts : word ≡ front ++ back

-- what stands behind a sign, if one stands there
abbrev pub IsSigned : List ℕ → Bool → List ℕ → Type 0
IsSigned word minus rest =
    ((minus ≡ true) × (word ≡ 45 ∷ rest))
    ⊎ ((minus ≡ false) × (word ≡ 43 ∷ rest))
    ⊎ ((minus ≡ false) × (word ≡ rest) × (slice_index word 0 ≢ 45) × (slice_index word 0 ≢ 43))

-- the decimal of its parts
abbrev pub decimal_of : List ℕ → List ℕ → Bool → List ℕ → Decimal
decimal_of before behind minus power = record { before = before; behind = behind; exponent = signed minus (numeral_value power) }

-- a fraction where it is in range, and that it leaves where it isn't
abbrev pub IsAnswer : Fraction → Result Fraction NumberFault → Type 0
IsAnswer value answer = MatchResult answer (λ r. (r ≡ value) × IsInRange value) (λ e. (e ≡ fault.Leaves) × ¬ IsInRange value)

-- the value of a decimal where it stays, and that it leaves where it doesn't
abbrev pub IsValue : Decimal → Result Fraction NumberFault → Type 0
IsValue d answer = MatchResult answer (λ r. (r ≡ decimal_value d) × Stays d) (λ e. (e ≡ fault.Leaves) × ¬ Stays d)

-- one digit more, where the number stops at the greatest one of 128 bits
unfoldable pub with_digit : Significant → ℕ → Significant
with_digit s digit =
    if digit == 48 then (if s.number == 0 then s else record { number = s.number; zeros = s.zeros + 1 })
    else record { number = min (s.number * 10 ^ (s.zeros + 1) + (digit - 48)) (2 ^ 128 - 1); zeros = 0 }

-- more digits
unfoldable pub with_digits : Significant → List ℕ → Significant
with_digits s [] = s
with_digits s (digit ∷ digits) = with_digits (with_digit s digit) digits
