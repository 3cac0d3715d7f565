-- What the test that one fraction is below another says.
use Rattle.std.proofs.Common.{◌≡◌, true, false, pos, ◌*ℤ◌, arith}
use Rattle.std.proofs.lemmas.Int.{ints}
use Rattle.qm_math.specs.Fraction.{Fraction, IsAtMost, is_below}
use Rattle.qm_math.proofs.Compare.{below_at_most_weak}
use Rattle.qm_math.proofs.WholeTests.{lt_of_test}

pub at_most_of_below : (a b : Fraction) → is_below a b ≡ true → IsAtMost a b
at_most_of_below a b e = below_at_most_weak a b (lt_of_test (a.num *ℤ pos b.den) (b.num *ℤ pos a.den) e)

pub at_most_of_not : (a b : Fraction) → is_below b a ≡ false → IsAtMost a b
at_most_of_not a b e = grind (arith, ints)
