-- The test of the program's fractions.
use Rattle.std.specs.Prelude.{Bool, ◌&&◌, ◌==◌, ◌^◌, nat_lt, unsigned_abs, List}
use Rattle.std.specs.List.{list_all}
use Rattle.qm_math.specs.Fraction.{Fraction}
use Rattle.qm_frac.specs.Gcd.{gcd_of}

-- the test of IsFrac: in lowest terms, over a positive denominator, and in range
abbrev pub is_frac : Fraction → Bool
is_frac r = nat_lt 0 r.den && (gcd_of (unsigned_abs r.num) r.den == 1) && nat_lt (unsigned_abs r.num) (2 ^ 127) && nat_lt r.den (2 ^ 127)

abbrev pub are_fracs : List Fraction → Bool
are_fracs values = list_all is_frac values
