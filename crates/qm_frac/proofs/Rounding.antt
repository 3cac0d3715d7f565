-- A quotient is no greater than what is divided.
use Rattle.std.proofs.Common.{ℕ, ◌^◌, ◌<◌, ℤ, pos, negsuc, unsigned_abs, arith}
use Rattle.std.specs.Int.{int_div_euclid}
use native.Mathlib.Nat.{div-le_self}

pub floor_fits : (z : ℤ) (d : ℕ) → 0 < d → unsigned_abs z < 2 ^ 127 → unsigned_abs (int_div_euclid z (pos d)) < 2 ^ 127
floor_fits (pos a) d some h = let q = div-le_self a d in omega arith
floor_fits (negsuc a) d some h = let q = div-le_self a d in omega arith
