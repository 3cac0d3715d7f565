-- The whole numbers next to a fraction.
use Rattle.std.specs.Prelude.{ℤ, pos, ◌+ℤ◌, ◌-ℤ◌, neg_ℤ}
use Rattle.std.specs.Int.{int_div_euclid}
use Rattle.qm_math.specs.Fraction.{Fraction, whole, IsAtMost, IsBelow}

-- n is the greatest whole number that is at most the fraction
abbrev pub IsFloor : ℤ → Fraction → Type 0
IsFloor n a = IsAtMost (whole n) a × IsBelow a (whole (n +ℤ pos 1))

-- n is the least whole number that the fraction is at most
abbrev pub IsCeil : ℤ → Fraction → Type 0
IsCeil n a = IsAtMost a (whole n) × IsBelow (whole (n -ℤ pos 1)) a

-- a fraction rounded down
abbrev pub floor_of : Fraction → ℤ
floor_of a = int_div_euclid a.num (pos a.den)

-- a fraction rounded up
abbrev pub ceil_of : Fraction → ℤ
ceil_of a = neg_ℤ (int_div_euclid (neg_ℤ a.num) (pos a.den))
