-- Sums, products and quotients of fractions, multiplied out and not reduced.
use Rattle.std.specs.Prelude.{ℤ, pos, negsuc, ◌+ℤ◌, ◌*ℤ◌, neg_ℤ, ◌*◌, unsigned_abs}
use Rattle.qm_math.specs.Fraction.{Fraction}

-- a + b
unfoldable pub sum_of : Fraction → Fraction → Fraction
sum_of a b = record { num = (a.num *ℤ pos b.den) +ℤ (b.num *ℤ pos a.den); den = a.den * b.den }

-- -a
unfoldable pub negated : Fraction → Fraction
negated a = record { num = neg_ℤ a.num; den = a.den }

-- a - b
abbrev pub difference_of : Fraction → Fraction → Fraction
difference_of a b = sum_of a (negated b)

-- a b
unfoldable pub product_of : Fraction → Fraction → Fraction
product_of a b = record { num = a.num *ℤ b.num; den = a.den * b.den }

-- 1, or -1 for a negative number
abbrev pub sign_of : ℤ → ℤ
sign_of (pos n) = pos 1
sign_of (negsuc n) = negsuc 0

-- 1 / a, where a is not 0
unfoldable pub inverse_of : Fraction → Fraction
inverse_of a = record { num = sign_of a.num *ℤ pos a.den; den = unsigned_abs a.num }

-- a / b, where b is not 0
abbrev pub quotient_of : Fraction → Fraction → Fraction
quotient_of a b = product_of a (inverse_of b)
