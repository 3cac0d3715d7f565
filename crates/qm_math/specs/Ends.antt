-- Multiples of the fractions between two ends.
use Rattle.std.specs.Prelude.{ℤ, pos, negsuc}
use Rattle.qm_math.specs.Fraction.{Fraction, IsAtMost}
use Rattle.qm_math.specs.Arithmetic.{product_of}

-- the fraction lies between the ends
abbrev pub IsWithin : Fraction → Fraction → Fraction → Type 0
IsWithin low high v = IsAtMost low v × IsAtMost v high

-- the first of the two, or the second for a negative number
abbrev pub by_sign : ℤ → Fraction → Fraction → Fraction
by_sign (pos n) a b = a
by_sign (negsuc n) a b = b

-- k times the end that makes it least: the low end unless k is negative
abbrev pub least_multiple : Fraction → Fraction → Fraction → Fraction
least_multiple k low high = product_of k (by_sign k.num low high)

-- k times the end that makes it greatest
abbrev pub greatest_multiple : Fraction → Fraction → Fraction → Fraction
greatest_multiple k low high = product_of k (by_sign k.num high low)
