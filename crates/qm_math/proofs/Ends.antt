-- A multiple of a fraction between two ends lies between the least and the greatest multiple of the ends, and so do sums of such.
use Rattle.std.proofs.Common.{◌≡◌, ◌∙◌, sym, refl, ap, ◌<◌, ◌<ℤ◌, arith, List, get_or, All, ℤ, pos, negsuc, ◌*ℤ◌, ◌≤ℤ◌}
use Rattle.std.proofs.lemmas.Int.{ints}
use Rattle.qm_math.specs.Fraction.{Fraction, whole, IsAtMost, IsSame}
use Rattle.qm_math.specs.Arithmetic.{product_of}
use Rattle.qm_math.specs.Ranges.{IsBetween, least_product, greatest_product}
use Rattle.qm_math.specs.Sums.{sum_of_each}
use Rattle.qm_math.specs.Totals.{total_of}
use Rattle.qm_math.specs.Combinations.{dot_product}
use Rattle.qm_math.specs.Ends.{IsWithin, by_sign, least_multiple, greatest_multiple}
use Rattle.qm_math.proofs.Between.{least_product_le, le_greatest_product}
use Rattle.qm_math.proofs.FractionLaws.{product_of-whole, product_of-same, same_sym}
use Rattle.qm_math.proofs.FractionOrder.{product_of-at_most, product_of-at_most_turned, num_nonneg, num_nonpos, whole-at_most, same_below}
use Rattle.qm_math.proofs.Sums.{sum_of_each-le}
use Rattle.qm_math.proofs.Totals.{total_of-at_most}

-- an order times a number of either sign
least_by_sign : (k low high v : Fraction) (z : ℤ) → z ≡ k.num → IsWithin low high v → IsAtMost (product_of k (by_sign z low high)) (product_of k v)
least_by_sign k low high v (pos n) e within = product_of-at_most k low v (num_nonneg k (omega (arith, ints, e))) within.0
least_by_sign k low high v (negsuc n) e within = product_of-at_most_turned k v high (num_nonpos k (omega (arith, ints, e))) within.1

greatest_by_sign : (k low high v : Fraction) (z : ℤ) → z ≡ k.num → IsWithin low high v → IsAtMost (product_of k v) (product_of k (by_sign z high low))
greatest_by_sign k low high v (pos n) e within = product_of-at_most k v high (num_nonneg k (omega (arith, ints, e))) within.1
greatest_by_sign k low high v (negsuc n) e within = product_of-at_most_turned k low v (num_nonpos k (omega (arith, ints, e))) within.0

pub least_multiple-at_most : (k low high v : Fraction) → IsWithin low high v → IsAtMost (least_multiple k low high) (product_of k v)
least_multiple-at_most k low high v within = least_by_sign k low high v k.num refl within

pub at_most-greatest_multiple : (k low high v : Fraction) → IsWithin low high v → IsAtMost (product_of k v) (greatest_multiple k low high)
at_most-greatest_multiple k low high v within = greatest_by_sign k low high v k.num refl within

-- ---- the same coefficient has the same ends
by_sign-same : (m n : ℤ) (low high : Fraction) → (m <ℤ pos 0 → n <ℤ pos 0) → (n <ℤ pos 0 → m <ℤ pos 0) → by_sign m low high ≡ by_sign n low high
by_sign-same (pos m) (pos n) low high to from = refl
by_sign-same (pos m) (negsuc n) low high to from = absurd (omega (arith, ints, from (omega (arith, ints))))
by_sign-same (negsuc m) (pos n) low high to from = absurd (omega (arith, ints, to (omega (arith, ints))))
by_sign-same (negsuc m) (negsuc n) low high to from = refl

pub least_multiple-same : (k l low high : Fraction) → 0 < k.den → 0 < l.den → IsSame k l → IsSame (least_multiple k low high) (least_multiple l low high)
least_multiple-same k l low high hk hl e =
    product_of-same k (by_sign k.num low high) l (by_sign l.num low high) e
    (same_path (by_sign k.num low high) (by_sign l.num low high) (by_sign-same k.num l.num low high (same_below k l hk hl e) (same_below l k hl hk (same_sym k l e))))
  where
    same_path : (a b : Fraction) → a ≡ b → IsSame a b
    same_path a b e = ap (λ x. a.num *ℤ pos x.den) (sym e) ∙ ap (λ x. x.num *ℤ pos a.den) e

pub greatest_multiple-same : (k l low high : Fraction) → 0 < k.den → 0 < l.den → IsSame k l → IsSame (greatest_multiple k low high) (greatest_multiple l low high)
greatest_multiple-same k l low high hk hl e = least_multiple-same k l high low hk hl e

-- ---- whole ranges
pub IsWithin-whole : (low high v : ℤ) → IsBetween low high v → IsWithin (whole low) (whole high) (whole v)
IsWithin-whole low high v h = ((whole-at_most low v).1 h.0, (whole-at_most v high).1 h.1)

pub least_multiple-whole : (k low high : ℤ) → IsSame (least_multiple (whole k) (whole low) (whole high)) (whole (least_product k low high))
least_multiple-whole (pos n) low high = product_of-whole (pos n) low
least_multiple-whole (negsuc n) low high = product_of-whole (negsuc n) high

pub greatest_multiple-whole : (k low high : ℤ) → IsSame (greatest_multiple (whole k) (whole low) (whole high)) (whole (greatest_product k low high))
greatest_multiple-whole (pos n) low high = product_of-whole (pos n) high
greatest_multiple-whole (negsuc n) low high = product_of-whole (negsuc n) low

-- ---- over a box
pub total_of-least_multiple : {C : Type 0} (columns : List C) (k low high x : C → Fraction) → All (λ c. IsWithin (low c) (high c) (x c)) columns
    → IsAtMost (total_of (λ c. least_multiple (k c) (low c) (high c)) columns) (dot_product columns k x)
total_of-least_multiple columns k low high x within =
    total_of-at_most (λ c. least_multiple (k c) (low c) (high c)) (λ c. product_of (k c) (x c)) columns
    (λ i d below. least_multiple-at_most (k (get_or columns i d)) (low (get_or columns i d)) (high (get_or columns i d)) (x (get_or columns i d)) (within i d below))

pub total_of-greatest_multiple : {C : Type 0} (columns : List C) (k low high x : C → Fraction) → All (λ c. IsWithin (low c) (high c) (x c)) columns
    → IsAtMost (dot_product columns k x) (total_of (λ c. greatest_multiple (k c) (low c) (high c)) columns)
total_of-greatest_multiple columns k low high x within =
    total_of-at_most (λ c. product_of (k c) (x c)) (λ c. greatest_multiple (k c) (low c) (high c)) columns
    (λ i d below. at_most-greatest_multiple (k (get_or columns i d)) (low (get_or columns i d)) (high (get_or columns i d)) (x (get_or columns i d)) (within i d below))

pub sum_of_each-least_product : {C : Type 0} (columns : List C) (k low high x : C → ℤ) → All (λ c. IsBetween (low c) (high c) (x c)) columns
    → sum_of_each (λ c. least_product (k c) (low c) (high c)) columns ≤ℤ sum_of_each (λ c. k c *ℤ x c) columns
sum_of_each-least_product columns k low high x within =
    sum_of_each-le (λ c. least_product (k c) (low c) (high c)) (λ c. k c *ℤ x c) columns
    (λ i d below. least_product_le (k (get_or columns i d)) (low (get_or columns i d)) (high (get_or columns i d)) (x (get_or columns i d)) (within i d below))

pub sum_of_each-greatest_product : {C : Type 0} (columns : List C) (k low high x : C → ℤ) → All (λ c. IsBetween (low c) (high c) (x c)) columns
    → sum_of_each (λ c. k c *ℤ x c) columns ≤ℤ sum_of_each (λ c. greatest_product (k c) (low c) (high c)) columns
sum_of_each-greatest_product columns k low high x within =
    sum_of_each-le (λ c. k c *ℤ x c) (λ c. greatest_product (k c) (low c) (high c)) columns
    (λ i d below. le_greatest_product (k (get_or columns i d)) (low (get_or columns i d)) (high (get_or columns i d)) (x (get_or columns i d)) (within i d below))
