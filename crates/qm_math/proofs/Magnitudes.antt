-- Whole numbers with a magnitude above 0.
use Rattle.std.proofs.Common.{◌≢◌, refl, zero, suc, ◌<◌, arith, ℤ, pos, negsuc, ◌≤ℤ◌, ◌<ℤ◌, unsigned_abs}
use Rattle.std.proofs.lemmas.Int.{ints}

pub unsigned_abs-nonzero : (z : ℤ) → z ≢ pos 0 → 0 < unsigned_abs z
unsigned_abs-nonzero (pos zero) h = absurd (h refl)
unsigned_abs-nonzero (pos (suc n)) h = omega arith
unsigned_abs-nonzero (negsuc n) h = omega arith

pub unsigned_abs-above_zero : (z : ℤ) → pos 0 <ℤ z → 0 < unsigned_abs z
unsigned_abs-above_zero z h = omega (arith, ints, h)

pub unsigned_abs-one_le : (z : ℤ) → pos 1 ≤ℤ z → 0 < unsigned_abs z
unsigned_abs-one_le z h = omega (arith, ints, h)

pub nonzero-one_le : (z : ℤ) → pos 1 ≤ℤ z → z ≢ pos 0
nonzero-one_le z h e = omega (arith, ints, e, h)
