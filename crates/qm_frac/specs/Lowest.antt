-- Fractions in lowest terms, and the range of the program's fractions.
use Rattle.std.specs.Prelude.{◌≡◌, ℕ, ◌/◌, ◌^◌, ◌<◌, ℤ, unsigned_abs, Bool}
use Rattle.qm_math.specs.Fraction.{Fraction}
use Rattle.qm_frac.specs.Gcd.{gcd_of}
use Rattle.qm_frac.specs.Signs.{signed, is_below_zero, turned}

-- numerator and denominator are at most 2 ^ 127 - 1 away from 0
pub record IsInRange (r : Fraction) : Type 0 where
  pub num_fits : unsigned_abs r.num < 2 ^ 127
  pub den_fits : r.den < 2 ^ 127

-- a fraction of the program: in lowest terms, over a positive denominator, and in range
pub record IsFrac (r : Fraction) : Type 0 where
  pub positive : 0 < r.den
  pub lowest : gcd_of (unsigned_abs r.num) r.den ≡ 1
  pub num_fits : unsigned_abs r.num < 2 ^ 127
  pub den_fits : r.den < 2 ^ 127

-- a magnitude with a sign over a number, both divided by their greatest common divisor
unfoldable pub lowest_parts : Bool → ℕ → ℕ → Fraction
lowest_parts minus n d = record { num = signed minus (n / gcd_of n d); den = d / gcd_of n d }

-- n / d in lowest terms, for a d above 0
abbrev pub lowest : ℤ → ℕ → Fraction
lowest n d = lowest_parts (is_below_zero n) (unsigned_abs n) d

-- n / d in lowest terms over a positive denominator, for a d that isn't 0
abbrev pub lowest_terms : ℤ → ℤ → Fraction
lowest_terms n d = lowest (turned n d) (unsigned_abs d)
