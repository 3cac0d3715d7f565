-- A whole number as a sign and a magnitude.
use Rattle.std.specs.Prelude.{◌≡◌, ℤ, ℕ, pos, negsuc, unsigned_abs, ◌<ℤ◌, refl, Bool, true, false, neg_ℤ}
use Rattle.std.proofs.Common.{arith}
use Rattle.std.proofs.lemmas.Int.{ints}

-- a magnitude with a sign, true for minus
abbrev pub signed : Bool → ℕ → ℤ
signed false n = pos n
signed true n = neg_ℤ (pos n)

abbrev pub is_below_zero : ℤ → Bool
is_below_zero (pos n) = false
is_below_zero (negsuc n) = true

-- n with d's sign taken over, so that n / d keeps its value where d becomes its magnitude
abbrev pub turned : ℤ → ℤ → ℤ
turned n (pos d) = n
turned n (negsuc d) = neg_ℤ n

-- a number above 0 is its magnitude
pub pos_abs : (z : ℤ) → pos 0 <ℤ z → pos (unsigned_abs z) ≡ z
pos_abs (pos n) h = refl
pos_abs (negsuc n) h = absurd (omega (arith, ints))
