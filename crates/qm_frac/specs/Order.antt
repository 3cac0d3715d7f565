-- The order of fractions with positive denominators.
use Rattle.std.specs.Prelude.{pos, ◌*ℤ◌}
use Rattle.std.specs.declared.cmp.Ordering.{Ordering}
use Rattle.std.specs.Ordering.{int_cmp}
use Rattle.qm_math.specs.Fraction.{Fraction}

-- multiplied out
abbrev pub fraction_cmp : Fraction → Fraction → Ordering
fraction_cmp a b = int_cmp (a.num *ℤ pos b.den) (b.num *ℤ pos a.den)
