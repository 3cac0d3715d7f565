-- Rows of whole numbers at whole values.
use Rattle.std.proofs.Common.{List, get_or, ℤ, ◌*ℤ◌}
use Rattle.qm_math.specs.Fraction.{Fraction, whole, IsSame, IsAtMost}
use Rattle.qm_math.specs.Arithmetic.{product_of}
use Rattle.qm_math.specs.Sums.{sum_of_each}
use Rattle.qm_math.specs.Totals.{total_of}
use Rattle.qm_math.specs.Combinations.{dot_product}
use Rattle.qm_math.specs.Rounding.{IsFloor}
use Rattle.qm_math.proofs.Compare.{at_most_trans}
use Rattle.qm_math.proofs.FractionLaws.{same_trans, same_sym, whole_den, product_of-whole}
use Rattle.qm_math.proofs.FractionOrder.{at_most-same, whole-at_most}
use Rattle.qm_math.proofs.Rounding.{IsFloor-greatest}
use Rattle.qm_math.proofs.Totals.{total_of_den, total_of-same, total_of-whole}
use Rattle.qm_math.proofs.Combinations.{dot_product_den}

pub dot_product-whole : {C : Type 0} (columns : List C) (k x : C → ℤ)
    → IsSame (dot_product columns (λ c. whole (k c)) (λ c. whole (x c))) (whole (sum_of_each (λ c. k c *ℤ x c) columns))
dot_product-whole columns k x =
    same_trans (dot_product columns (λ c. whole (k c)) (λ c. whole (x c))) (total_of (λ c. whole (k c *ℤ x c)) columns) (whole (sum_of_each (λ c. k c *ℤ x c) columns))
    (total_of_den (λ c. whole (k c *ℤ x c)) columns (λ i d below. whole_den (k (get_or columns i d) *ℤ x (get_or columns i d))))
    (total_of-same (λ c. product_of (whole (k c)) (whole (x c))) (λ c. whole (k c *ℤ x c)) columns
    (λ i d below. product_of-whole (k (get_or columns i d)) (x (get_or columns i d))))
    (total_of-whole (λ c. k c *ℤ x c) columns)

-- a whole row at whole values is at most its bound rounded down
pub dot_product-floor : {C : Type 0} (columns : List C) (k x : C → ℤ) (r : Fraction) (n : ℤ) → IsFloor n r
    → IsAtMost (dot_product columns (λ c. whole (k c)) (λ c. whole (x c))) r
    → IsAtMost (dot_product columns (λ c. whole (k c)) (λ c. whole (x c))) (whole n)
dot_product-floor columns k x r n floor h =
    let row = dot_product columns (λ c. whole (k c)) (λ c. whole (x c)) in
    let row_den = dot_product_den columns (λ c. whole (k c)) (λ c. whole (x c))
    (λ i d below. whole_den (k (get_or columns i d))) (λ i d below. whole_den (x (get_or columns i d))) in
    let sum = sum_of_each (λ c. k c *ℤ x c) columns in
    let same : IsSame row (whole sum) = dot_product-whole columns k x in
    at_most_trans row (whole sum) (whole n) (whole_den sum) (at_most-same row (whole sum) same)
    ((whole-at_most sum n).1 ((IsFloor-greatest n r sum floor).0
    (at_most_trans (whole sum) row r row_den (at_most-same (whole sum) row (same_sym row (whole sum) same)) h)))
