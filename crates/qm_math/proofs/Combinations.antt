-- A combination of rows: its value is the combination of the rows' values, and the rows' bounds bound it.
use Rattle.std.proofs.Common.{◌<◌, List, get_or, All, pos}
use Rattle.qm_math.specs.Fraction.{Fraction, whole, IsSame, IsAtMost}
use Rattle.qm_math.specs.Arithmetic.{product_of}
use Rattle.qm_math.specs.Totals.{total_of}
use Rattle.qm_math.specs.Combinations.{dot_product, combined_row}
use Rattle.qm_math.proofs.FractionLaws.{same_sym, same_trans, product_of_den, product_of_assoc, product_of-same}
use Rattle.qm_math.proofs.Compare.{at_most_trans}
use Rattle.qm_math.proofs.FractionOrder.{at_most-same, product_of-at_most}
use Rattle.qm_math.proofs.Totals.{total_of_den, total_of-same, total_of-at_most, product_of-total_of, total_of-product_of, total_of_exchange}

pub dot_product_den : {C : Type 0} (columns : List C) (k x : C → Fraction)
    → All (λ c. 0 < (k c).den) columns → All (λ c. 0 < (x c).den) columns → 0 < (dot_product columns k x).den
dot_product_den columns k x hk hx =
    total_of_den (λ c. product_of (k c) (x c)) columns
    (λ i d below. product_of_den (k (get_or columns i d)) (x (get_or columns i d)) (hk i d below) (hx i d below))

pub dot_product-same : {C : Type 0} (columns : List C) (k l x y : C → Fraction)
    → All (λ c. IsSame (k c) (l c)) columns → All (λ c. IsSame (x c) (y c)) columns → IsSame (dot_product columns k x) (dot_product columns l y)
dot_product-same columns k l x y e f =
    total_of-same (λ c. product_of (k c) (x c)) (λ c. product_of (l c) (y c)) columns
    (λ i d below. product_of-same (k (get_or columns i d)) (x (get_or columns i d)) (l (get_or columns i d)) (y (get_or columns i d)) (e i d below) (f i d below))

-- y times a row's value
scaled_value : {C : Type 0} (y : Fraction) (columns : List C) (k x : C → Fraction)
    → 0 < y.den → All (λ c. 0 < (k c).den) columns → All (λ c. 0 < (x c).den) columns
    → IsSame (product_of y (dot_product columns k x)) (total_of (λ c. product_of (product_of y (k c)) (x c)) columns)
scaled_value y columns k x hy hk hx =
    same_trans (product_of y (dot_product columns k x)) (total_of (λ c. product_of y (product_of (k c) (x c))) columns)
    (total_of (λ c. product_of (product_of y (k c)) (x c)) columns)
    (total_of_den (λ c. product_of y (product_of (k c) (x c))) columns
    (λ i d below. product_of_den y (product_of (k (get_or columns i d)) (x (get_or columns i d))) hy
    (product_of_den (k (get_or columns i d)) (x (get_or columns i d)) (hk i d below) (hx i d below))))
    (product_of-total_of y (λ c. product_of (k c) (x c)) columns)
    (total_of-same (λ c. product_of y (product_of (k c) (x c))) (λ c. product_of (product_of y (k c)) (x c)) columns
    (λ i d below. same_sym (product_of (product_of y (k (get_or columns i d))) (x (get_or columns i d)))
    (product_of y (product_of (k (get_or columns i d)) (x (get_or columns i d))))
    (product_of_assoc y (k (get_or columns i d)) (x (get_or columns i d)))))

-- the value of a combination of rows is the same combination of the rows' values
pub dot_product-combined_row : {R C : Type 0} (rows : List R) (columns : List C) (y : R → Fraction) (a : R → C → Fraction) (x : C → Fraction)
    → All (λ r. 0 < (y r).den) rows → All (λ r. All (λ c. 0 < (a r c).den) columns) rows → All (λ c. 0 < (x c).den) columns
    → IsSame (dot_product columns (combined_row rows y a) x) (total_of (λ r. product_of (y r) (dot_product columns (a r) x)) rows)
dot_product-combined_row {R} {C} rows columns y a x hy ha hx =
    let term : R → C → Fraction = λ r c. product_of (product_of (y r) (a r c)) (x c) in
    let term_den : All (λ r. All (λ c. 0 < (term r c).den) columns) rows =
    λ i d below j e low. product_of_den (product_of (y (get_or rows i d)) (a (get_or rows i d) (get_or columns j e))) (x (get_or columns j e))
    (product_of_den (y (get_or rows i d)) (a (get_or rows i d) (get_or columns j e)) (hy i d below) (ha i d below j e low)) (hx j e low) in
    let by_column = total_of (λ c. total_of (λ r. term r c) rows) columns in
    let by_row = total_of (λ r. total_of (term r) columns) rows in
    let by_row_den = total_of_den (λ r. total_of (term r) columns) rows (λ i d below. total_of_den (term (get_or rows i d)) columns (term_den i d below)) in
    let by_column_den = total_of_den (λ c. total_of (λ r. term r c) rows) columns
    (λ j e low. total_of_den (λ r. term r (get_or columns j e)) rows (λ i d below. term_den i d below j e low)) in
    let opened : IsSame (dot_product columns (combined_row rows y a) x) by_column =
    total_of-same (λ c. product_of (combined_row rows y a c) (x c)) (λ c. total_of (λ r. term r c) rows) columns
    (λ j e low. total_of-product_of (x (get_or columns j e)) (λ r. product_of (y r) (a r (get_or columns j e))) rows (hx j e low)
    (λ i d below. product_of_den (y (get_or rows i d)) (a (get_or rows i d) (get_or columns j e)) (hy i d below) (ha i d below j e low))) in
    let closed : IsSame by_row (total_of (λ r. product_of (y r) (dot_product columns (a r) x)) rows) =
    total_of-same (λ r. total_of (term r) columns) (λ r. product_of (y r) (dot_product columns (a r) x)) rows
    (λ i d below. same_sym (product_of (y (get_or rows i d)) (dot_product columns (a (get_or rows i d)) x)) (total_of (term (get_or rows i d)) columns)
    (scaled_value (y (get_or rows i d)) columns (a (get_or rows i d)) x (hy i d below) (ha i d below) hx)) in
    same_trans (dot_product columns (combined_row rows y a) x) by_column (total_of (λ r. product_of (y r) (dot_product columns (a r) x)) rows)
    by_column_den opened
    (same_trans by_column by_row (total_of (λ r. product_of (y r) (dot_product columns (a r) x)) rows) by_row_den
    (same_sym by_row by_column (total_of_exchange term rows columns term_den)) closed)

-- rows that are each at most their bound, combined with numbers that are not negative
pub dot_product-combined_row-at_most : {R C : Type 0} (rows : List R) (columns : List C) (y : R → Fraction) (a : R → C → Fraction) (b : R → Fraction) (x : C → Fraction)
    → All (λ r. 0 < (y r).den) rows → All (λ r. All (λ c. 0 < (a r c).den) columns) rows → All (λ c. 0 < (x c).den) columns
    → All (λ r. IsAtMost (whole (pos 0)) (y r)) rows → All (λ r. IsAtMost (dot_product columns (a r) x) (b r)) rows
    → IsAtMost (dot_product columns (combined_row rows y a) x) (total_of (λ r. product_of (y r) (b r)) rows)
dot_product-combined_row-at_most rows columns y a b x hy ha hx nonneg holds =
    let weighted = total_of (λ r. product_of (y r) (dot_product columns (a r) x)) rows in
    let weighted_den = total_of_den (λ r. product_of (y r) (dot_product columns (a r) x)) rows
    (λ i d below. product_of_den (y (get_or rows i d)) (dot_product columns (a (get_or rows i d)) x) (hy i d below)
    (total_of_den (λ c. product_of (a (get_or rows i d) c) (x c)) columns
    (λ j e low. product_of_den (a (get_or rows i d) (get_or columns j e)) (x (get_or columns j e)) (ha i d below j e low) (hx j e low)))) in
    at_most_trans (dot_product columns (combined_row rows y a) x) weighted (total_of (λ r. product_of (y r) (b r)) rows) weighted_den
    (at_most-same (dot_product columns (combined_row rows y a) x) weighted (dot_product-combined_row rows columns y a x hy ha hx))
    (total_of-at_most (λ r. product_of (y r) (dot_product columns (a r) x)) (λ r. product_of (y r) (b r)) rows
    (λ i d below. product_of-at_most (y (get_or rows i d)) (dot_product columns (a (get_or rows i d)) x) (b (get_or rows i d)) (nonneg i d below) (holds i d below)))
