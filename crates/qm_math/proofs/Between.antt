-- Multiples of the numbers of a range.
use Rattle.std.proofs.Common.{ℕ, suc, ◌+◌, ◌*◌, ◌≤◌, arith, unsigned_abs, ℤ, pos, ◌*ℤ◌, ◌≤ℤ◌}
use Rattle.std.specs.Prelude.{negsuc}
use Rattle.std.proofs.Math.Nat.{mul-le-mul_left}
use Rattle.std.proofs.lemmas.Int.{ints, unsigned_abs-mul}
use borrow.Author.Differences.{up, down}
use Rattle.qm_math.specs.Ranges.{IsBetween, reach, least_product, greatest_product}

-- a natural number times an order
pub pos_times : (n : ℕ) (a b : ℤ) → a ≤ℤ b → (pos n *ℤ a) ≤ℤ (pos n *ℤ b)
pos_times n a b h =
    let parts : up a + down b ≤ up b + down a = omega (arith, ints) in
    omega (arith, ints, mul-le-mul_left n parts)

-- a negative number times an order
pub neg_times : (n : ℕ) (a b : ℤ) → a ≤ℤ b → (negsuc n *ℤ b) ≤ℤ (negsuc n *ℤ a)
neg_times n a b h =
    let parts : up a + down b ≤ up b + down a = omega (arith, ints) in
    omega (arith, ints, mul-le-mul_left (suc n) parts)

pub least_product_le : (k low high v : ℤ) → IsBetween low high v → least_product k low high ≤ℤ (k *ℤ v)
least_product_le (pos n) low high v h = pos_times n low v h.0
least_product_le (negsuc n) low high v h = neg_times n v high h.1

pub le_greatest_product : (k low high v : ℤ) → IsBetween low high v → (k *ℤ v) ≤ℤ greatest_product k low high
le_greatest_product (pos n) low high v h = pos_times n v high h.1
le_greatest_product (negsuc n) low high v h = neg_times n low v h.0

-- a number of the range gets no farther from 0 than the range does
pub between_reach : (low high v : ℤ) → IsBetween low high v → unsigned_abs v ≤ reach low high
between_reach low high v h = omega (arith, ints, h.0, h.1)

pub least_product_size : (k low high : ℤ) → unsigned_abs (least_product k low high) ≤ unsigned_abs k * reach low high
least_product_size (pos n) low high =
    omega (arith, unsigned_abs-mul (pos n) low, mul-le-mul_left n (let h : unsigned_abs low ≤ reach low high = omega arith in h))
least_product_size (negsuc n) low high =
    omega (arith, unsigned_abs-mul (negsuc n) high, mul-le-mul_left (suc n) (let h : unsigned_abs high ≤ reach low high = omega arith in h))

pub greatest_product_size : (k low high : ℤ) → unsigned_abs (greatest_product k low high) ≤ unsigned_abs k * reach low high
greatest_product_size (pos n) low high =
    omega (arith, unsigned_abs-mul (pos n) high, mul-le-mul_left n (let h : unsigned_abs high ≤ reach low high = omega arith in h))
greatest_product_size (negsuc n) low high =
    omega (arith, unsigned_abs-mul (negsuc n) low, mul-le-mul_left (suc n) (let h : unsigned_abs low ≤ reach low high = omega arith in h))

pub product_size : (k v : ℤ) → unsigned_abs (k *ℤ v) ≤ unsigned_abs k * unsigned_abs v
product_size k v = omega (arith, unsigned_abs-mul k v)
