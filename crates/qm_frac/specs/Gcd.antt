-- The greatest common divisor of two numbers.
use Rattle.std.specs.Prelude.{ℕ, zero, suc, ◌%◌}

-- by remainders, at most n of them
unfoldable pub gcd_within : ℕ → ℕ → ℕ → ℕ
gcd_within zero a b = a
gcd_within (suc n) a zero = a
gcd_within (suc n) a (suc b) = gcd_within n (suc b) (a % suc b)

-- the greatest number that divides both, and 0 where both are 0
unfoldable pub gcd_of : ℕ → ℕ → ℕ
gcd_of a b = gcd_within b a b
