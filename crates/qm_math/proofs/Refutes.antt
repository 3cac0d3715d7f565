-- Rows whose combination is above its bound everywhere in a box have no common point there.
use Rattle.std.proofs.Common.{◌<◌, List, get_or, All, pos}
use Rattle.qm_math.specs.Fraction.{Fraction, whole, IsAtMost, IsBelow}
use Rattle.qm_math.specs.Arithmetic.{product_of}
use Rattle.qm_math.specs.Totals.{total_of}
use Rattle.qm_math.specs.Combinations.{dot_product, combined_row}
use Rattle.qm_math.specs.Ends.{IsWithin, least_multiple}
use Rattle.qm_math.proofs.Compare.{at_most_trans}
use Rattle.qm_math.proofs.FractionOrder.{not_at_most_below}
use Rattle.qm_math.proofs.FractionLaws.{product_of_den}
use Rattle.qm_math.proofs.Totals.{total_of_den}
use Rattle.qm_math.proofs.Combinations.{dot_product_den, dot_product-combined_row-at_most}
use Rattle.qm_math.proofs.Ends.{total_of-least_multiple}

pub combined_row_den : {R C : Type 0} (rows : List R) (y : R → Fraction) (a : R → C → Fraction) (c : C)
    → All (λ r. 0 < (y r).den) rows → All (λ r. 0 < (a r c).den) rows → 0 < (combined_row rows y a c).den
combined_row_den rows y a c hy ha =
    total_of_den (λ r. product_of (y r) (a r c)) rows (λ i d below. product_of_den (y (get_or rows i d)) (a (get_or rows i d) c) (hy i d below) (ha i d below))

pub least_multiple-combined_row-at_most : {R C : Type 0} (rows : List R) (columns : List C) (y : R → Fraction) (a : R → C → Fraction) (b : R → Fraction) (low high x : C → Fraction)
    → All (λ r. 0 < (y r).den) rows → All (λ r. All (λ c. 0 < (a r c).den) columns) rows → All (λ c. 0 < (x c).den) columns
    → All (λ r. IsAtMost (whole (pos 0)) (y r)) rows → All (λ r. IsAtMost (dot_product columns (a r) x) (b r)) rows
    → All (λ c. IsWithin (low c) (high c) (x c)) columns
    → IsAtMost (total_of (λ c. least_multiple (combined_row rows y a c) (low c) (high c)) columns) (total_of (λ r. product_of (y r) (b r)) rows)
least_multiple-combined_row-at_most rows columns y a b low high x hy ha hx nonneg holds within =
    at_most_trans (total_of (λ c. least_multiple (combined_row rows y a c) (low c) (high c)) columns) (dot_product columns (combined_row rows y a) x) (total_of (λ r. product_of (y r) (b r)) rows)
    (dot_product_den columns (combined_row rows y a) x
    (λ j e low'. combined_row_den rows y a (get_or columns j e) hy (λ i d below. ha i d below j e low')) hx)
    (total_of-least_multiple columns (combined_row rows y a) low high x within)
    (dot_product-combined_row-at_most rows columns y a b x hy ha hx nonneg holds)

pub combination_refutes : {R C : Type 0} (rows : List R) (columns : List C) (y : R → Fraction) (a : R → C → Fraction) (b : R → Fraction) (low high x : C → Fraction)
    → All (λ r. 0 < (y r).den) rows → All (λ r. All (λ c. 0 < (a r c).den) columns) rows → All (λ c. 0 < (x c).den) columns
    → All (λ r. IsAtMost (whole (pos 0)) (y r)) rows → All (λ r. IsAtMost (dot_product columns (a r) x) (b r)) rows
    → All (λ c. IsWithin (low c) (high c) (x c)) columns
    → IsBelow (total_of (λ r. product_of (y r) (b r)) rows) (total_of (λ c. least_multiple (combined_row rows y a c) (low c) (high c)) columns) → ⊥
combination_refutes rows columns y a b low high x hy ha hx nonneg holds within =
    not_at_most_below (total_of (λ c. least_multiple (combined_row rows y a c) (low c) (high c)) columns) (total_of (λ r. product_of (y r) (b r)) rows)
    (least_multiple-combined_row-at_most rows columns y a b low high x hy ha hx nonneg holds within)
