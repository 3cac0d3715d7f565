-- Signed numbers as a sign and a magnitude, and as the code passes them on.
use Rattle.std.proofs.Common.{◌≡◌, ℕ, zero, suc, ◌*◌, ◌^◌, ◌<◌, ℤ, pos, negsuc, ◌-ℤ◌, ◌*ℤ◌, neg_ℤ, unsigned_abs, Bool, true, false, refl, arith, to_z, of_z, SFits, w64}
use Rattle.std.specs.Int.{w128}
use lib.IntN.{+ℤ_idl}
use Rattle.std.proofs.lemmas.Int.{to_z-of_z, fits_signed_from_abs}
use Rattle.std.proofs.lemmas.Bool.Decides.{nat_tests}
use lib.Signed.{lt_z}
use Rattle.qm_frac.specs.Signs.{signed, is_below_zero}

pub unsigned_abs-signed : (minus : Bool) (n : ℕ) → unsigned_abs (signed minus n) ≡ n
unsigned_abs-signed false n = refl
unsigned_abs-signed true zero = refl
unsigned_abs-signed true (suc n) = refl

pub unsigned_abs-neg : (z : ℤ) → unsigned_abs (neg_ℤ z) ≡ unsigned_abs z
unsigned_abs-neg (pos zero) = refl
unsigned_abs-neg (pos (suc n)) = refl
unsigned_abs-neg (negsuc n) = refl

-- a number is its sign and its magnitude
pub signed_abs : (z : ℤ) → signed (is_below_zero z) (unsigned_abs z) ≡ z
signed_abs (pos n) = refl
signed_abs (negsuc n) = refl

-- the code's test of the sign
pub below_zero_is : (z : ℤ) → lt_z z (pos 0) ≡ is_below_zero z
below_zero_is (pos n) = grind (arith, nat_tests)
below_zero_is (negsuc n) = refl

pub zero_minus : (z : ℤ) → pos 0 -ℤ z ≡ neg_ℤ z
zero_minus z = +ℤ_idl (neg_ℤ z)

pub neg-neg : (z : ℤ) → neg_ℤ (neg_ℤ z) ≡ z
neg-neg (pos zero) = refl
neg-neg (pos (suc n)) = refl
neg-neg (negsuc n) = refl

-- a numerator as the code passes it on
pub unwrap : (z : ℤ) → unsigned_abs z < 2 ^ 127 → to_z w128 (of_z w128 z) ≡ z
unwrap z h = to_z-of_z w128 z (fits_signed_from_abs w128 z h)

pub small_abs : (z : ℤ) → SFits w64 z → unsigned_abs z < 2 ^ 127
small_abs (pos n) h = let k : n < 2 ^ 63 = h.sfits in omega arith
small_abs (negsuc n) h = let k : n < 2 ^ 63 = h.sfits in omega arith

-- a magnitude times a number, with its sign
pub signed-mul : (z : ℤ) (d : ℕ) → signed (is_below_zero z) (unsigned_abs z * d) ≡ z *ℤ pos d
signed-mul (pos n) d = refl
signed-mul (negsuc n) d = refl
