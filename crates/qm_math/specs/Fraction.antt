-- Fractions of whole numbers without a bound on their size, compared multiplied out.
use Rattle.std.specs.Prelude.{◌≡◌, ℕ, ℤ, pos, ◌*ℤ◌, ◌≤ℤ◌, ◌<ℤ◌, ◌<◌, Bool, int_le, int_lt}

-- num / den, where den is above 0
pub record Fraction : Type 0 where
  pub num : ℤ
  pub den : ℕ

-- as each fraction is meant to be
abbrev pub HasPositiveDen : Fraction → Type 0
HasPositiveDen a = 0 < a.den

abbrev pub whole : ℤ → Fraction
whole n = record { num = n; den = 1 }

abbrev pub IsAtMost : Fraction → Fraction → Type 0
IsAtMost a b = (a.num *ℤ pos b.den) ≤ℤ (b.num *ℤ pos a.den)

abbrev pub IsBelow : Fraction → Fraction → Type 0
IsBelow a b = (a.num *ℤ pos b.den) <ℤ (b.num *ℤ pos a.den)

-- the same number, however it is written
abbrev pub IsSame : Fraction → Fraction → Type 0
IsSame a b = a.num *ℤ pos b.den ≡ b.num *ℤ pos a.den

-- the tests of the two orders
abbrev pub is_at_most : Fraction → Fraction → Bool
is_at_most a b = int_le (a.num *ℤ pos b.den) (b.num *ℤ pos a.den)

abbrev pub is_below : Fraction → Fraction → Bool
is_below a b = int_lt (a.num *ℤ pos b.den) (b.num *ℤ pos a.den)
