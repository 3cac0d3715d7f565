-- How large products of small numbers and their differences are, and numbers as the code passes them on.
use Rattle.std.proofs.Common.{◌≡◌, ◌∙◌, false, sym, ap, pos, ◌<ℤ◌, ◌*◌, ◌≤◌, ◌<◌, ◌^◌, ℤ, ◌*ℤ◌, ◌-ℤ◌, unsigned_abs, arith, to_z, of_z, w64}
use Rattle.std.specs.Prelude.{int_le}
use Rattle.std.specs.Int.{w128}
use Rattle.std.proofs.Math.Nat.{mul-le-mul}
use Rattle.std.proofs.lemmas.Int.{ints, fits_signed_from_abs, to_z-of_z, to_z_pos, unsigned_abs-mul}

pub product_small : (a b : ℤ) → unsigned_abs a ≤ 2 ^ 62 → unsigned_abs b ≤ 2 ^ 62 → unsigned_abs (a *ℤ b) ≤ 2 ^ 124
product_small a b h k =
    let both : unsigned_abs a * unsigned_abs b ≤ 2 ^ 62 * 2 ^ 62 = mul-le-mul h k in
    omega (arith, both, unsigned_abs-mul a b)

pub difference_small : (x y : ℤ) → unsigned_abs x ≤ 2 ^ 124 → unsigned_abs y ≤ 2 ^ 124 → unsigned_abs (x -ℤ y) < 2 ^ 127
difference_small x y h k = omega (arith, ints, h, k)

pub passed_64 : (z : ℤ) → unsigned_abs z ≤ 2 ^ 62 → to_z w64 (of_z w64 z) ≡ z
passed_64 z h = to_z-of_z w64 z (fits_signed_from_abs w64 z (omega (arith, h)))

pub passed_128 : (z : ℤ) → unsigned_abs z ≤ 2 ^ 125 → to_z w128 (of_z w128 z) ≡ z
passed_128 z h = to_z-of_z w128 z (fits_signed_from_abs w128 z (omega (arith, h)))

-- a number of 64 bits that is passed on in 128
pub widened : (z r : ℤ) → unsigned_abs z ≤ 2 ^ 62 → r ≡ to_z w64 (of_z w64 z) → to_z w128 (of_z w128 r) ≡ z
widened z r small is =
    let same : r ≡ z = rw is (passed_64 z small) in
    rw same (passed_128 z (omega (arith, small)))

-- a number of which the code sees that it is 0
pub zero_is : (z : ℤ) → unsigned_abs z ≤ 2 ^ 62 → of_z w64 z ≡ 0 → z ≡ pos 0
zero_is z small is = sym (passed_64 z small) ∙ ap (to_z w64) is ∙ to_z_pos w64 0 (omega arith)

-- a number of which the code sees that it isn't at most 0
pub above_is : (z : ℤ) → int_le z (pos 0) ≡ false → pos 0 <ℤ z
above_is z h = grind (arith, ints)
