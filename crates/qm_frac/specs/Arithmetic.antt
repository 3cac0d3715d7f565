-- Exact arithmetic of fractions: each answer is in lowest terms.
use Rattle.std.specs.Prelude.{ℕ, ◌*◌, ◌/◌, ◌^◌, ◌<◌, ℤ, pos, ◌+ℤ◌, ◌*ℤ◌, neg_ℤ, unsigned_abs}
use Rattle.qm_math.specs.Fraction.{Fraction}
use Rattle.qm_frac.specs.Gcd.{gcd_of}
use Rattle.qm_frac.specs.Signs.{signed, is_below_zero}
use Rattle.qm_frac.specs.Lowest.{lowest}

-- the least number that both denominators divide
abbrev pub common_den : Fraction → Fraction → ℕ
common_den a b = a.den * (b.den / gcd_of a.den b.den)

-- the two numerators over that denominator
abbrev pub left_num : Fraction → Fraction → ℤ
left_num a b = a.num *ℤ pos (b.den / gcd_of a.den b.den)

abbrev pub right_num : Fraction → Fraction → ℤ
right_num a b = b.num *ℤ pos (a.den / gcd_of a.den b.den)

-- the exact sum
abbrev pub sum : Fraction → Fraction → Fraction
sum a b = lowest (left_num a b +ℤ right_num a b) (common_den a b)

-- the steps of an addition stay in range: the common denominator, both numerators over it, and their sum before it is reduced
pub record SumFits (a b : Fraction) : Type 0 where
  pub common : common_den a b < 2 ^ 127
  pub left : unsigned_abs (left_num a b) < 2 ^ 127
  pub right : unsigned_abs (right_num a b) < 2 ^ 127
  pub total : unsigned_abs (left_num a b +ℤ right_num a b) < 2 ^ 127

abbrev pub negated : Fraction → Fraction
negated a = record { num = neg_ℤ a.num; den = a.den }

abbrev pub difference : Fraction → Fraction → Fraction
difference a b = sum a (negated b)

abbrev pub product : Fraction → Fraction → Fraction
product a b = lowest (a.num *ℤ b.num) (a.den * b.den)

-- 1 / a, for an a that isn't 0
abbrev pub inverse : Fraction → Fraction
inverse a = record { num = signed (is_below_zero a.num) a.den; den = unsigned_abs a.num }

abbrev pub quotient : Fraction → Fraction → Fraction
quotient a b = product a (inverse b)
