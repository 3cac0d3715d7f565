-- Bounds that fit a domain are near 0.
use Rattle.std.proofs.Common.{◌≡◌, ℕ, ℤ, ◌≤◌, ◌^◌, Bool, true, false, not, ◌&&◌, ◌||◌, unsigned_abs, pos, refl, rules}
use Rattle.std.specs.Prelude.{◌-ℤ◌, IsTrue, int_le, nat_le}
use Rattle.qm_normal.specs.TableSteps.{fits_between}

first_of : (a b : Bool) → (a && b) ≡ true → a ≡ true
first_of true b both = refl
first_of false b both = both

second_of : (a b : Bool) → (a && b) ≡ true → b ≡ true
second_of true b both = both
second_of false b both = absurd (cc)

near : (n most : ℕ) → nat_le n most ≡ true → n ≤ most
near n most is = search rules

abbrev is_short : Bool → ℤ → ℤ → Bool
is_short whole low high = not whole || int_le (high -ℤ low) (pos 1048575)

both_near : (whole : Bool) (low high : ℤ) → IsTrue (fits_between whole low high) → (nat_le (unsigned_abs low) (2 ^ 50) && nat_le (unsigned_abs high) (2 ^ 50)) ≡ true
both_near whole low high fits = first_of (nat_le (unsigned_abs low) (2 ^ 50) && nat_le (unsigned_abs high) (2 ^ 50)) (is_short whole low high) fits

pub near_low : (whole : Bool) (low high : ℤ) → IsTrue (fits_between whole low high) → unsigned_abs low ≤ 2 ^ 50
near_low whole low high fits =
    near (unsigned_abs low) (2 ^ 50) (first_of (nat_le (unsigned_abs low) (2 ^ 50)) (nat_le (unsigned_abs high) (2 ^ 50)) (both_near whole low high fits))

pub near_high : (whole : Bool) (low high : ℤ) → IsTrue (fits_between whole low high) → unsigned_abs high ≤ 2 ^ 50
near_high whole low high fits =
    near (unsigned_abs high) (2 ^ 50) (second_of (nat_le (unsigned_abs low) (2 ^ 50)) (nat_le (unsigned_abs high) (2 ^ 50)) (both_near whole low high fits))
