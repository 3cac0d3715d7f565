-- The inverse of a fraction by its sign, and multiplied out.
use Rattle.std.proofs.Common.{◌≡◌, ℕ, ℤ, pos, ◌*ℤ◌, ap, arith, unsigned_abs}
use Rattle.std.specs.Prelude.{negsuc}
use Rattle.std.proofs.lemmas.Int.{ints}
use Rattle.qm_math.specs.Fraction.{Fraction}
use Rattle.qm_math.specs.Arithmetic.{inverse_of, sign_of}
use Rattle.qm_frac.specs.Signs.{signed, is_below_zero}
use Rattle.qm_frac.specs.Arithmetic.{inverse}

-- a sign on a number is the number times 1 or -1
signed-sign_of : (n : ℤ) (d : ℕ) → signed (is_below_zero n) d ≡ sign_of n *ℤ pos d
signed-sign_of (pos n) d = omega (arith, ints)
signed-sign_of (negsuc n) d = omega (arith, ints)

pub inverse-inverse_of : (b : Fraction) → inverse b ≡ inverse_of b
unfolding inverse_of
inverse-inverse_of b = ap (λ (n : ℤ). let q : Fraction = record { num = n; den = unsigned_abs b.num } in q) (signed-sign_of b.num b.den)
