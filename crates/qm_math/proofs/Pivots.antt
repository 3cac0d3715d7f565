-- A pivot keeps each row the same function of the unknowns.
use Rattle.std.proofs.Common.{◌≡◌, refl, subst, ℕ, ◌<◌, arith, List, [], ◌∷◌, length, get_or, set, All, pos}
use Rattle.std.proofs.lemmas.List.Elements.{All-set, All-get_or}
use Rattle.qm_math.specs.Fraction.{Fraction, IsSame}
use Rattle.qm_math.specs.Arithmetic.{sum_of, difference_of, product_of}
use Rattle.qm_math.specs.Totals.{sum_of_products, reduced_row}
use Rattle.qm_math.specs.Combinations.{dot_product}
use Rattle.qm_math.specs.Pivots.{row_value, pivoted_row, pivoted_constant, pivoted_number}
use Rattle.qm_math.proofs.Polynomials.{item, number, ◌⊕◌, ◌⊗◌, minus}
use Rattle.qm_math.proofs.Ring.{x0, x1, x2, x3, x4, x5, x6, x7, x8, x9}
use Rattle.qm_math.proofs.FractionRing.{den_of, same_by_ring, same_from}
use Rattle.qm_math.proofs.FractionLinear.{same_given}
use Rattle.qm_math.proofs.FractionLaws.{product_of_den, difference_of_den}
use Rattle.qm_math.proofs.Combinations.{dot_product_den}
use Rattle.qm_math.proofs.Rows.{sum_of_products_den, length-reduced_row, get_or-reduced_row, reduced_row_den, reduced_step, sum_of_products-reduced_row, sum_of_products-set, sum_of_products-set_value}

-- the algebra of it: t, u and q are what the rows and the values have in the pivot column, T and U the sums
-- over the old columns, C the sum after the row is reduced, and N the sum after the column has the factor
keeps : (constant other f y n q c t u kc oc : Fraction)
    → 0 < constant.den → 0 < other.den → 0 < f.den → 0 < y.den → 0 < n.den → 0 < q.den → 0 < c.den → 0 < t.den → 0 < u.den → 0 < kc.den → 0 < oc.den
    → IsSame (sum_of n (product_of (difference_of kc (product_of f oc)) q)) (sum_of c (product_of f y))
    → IsSame c (difference_of t (product_of f u))
    → IsSame (product_of f oc) kc
    → IsSame y (sum_of other u)
    → IsSame (sum_of (difference_of constant (product_of f other)) n) (sum_of constant t)
keeps constant other f y n q c t u kc oc h0 h1 h2 h3 h4 h5 h6 h7 h8 h9 h10 replaced less factor pivot =
    same_given (constant ∷ other ∷ f ∷ y ∷ n ∷ q ∷ c ∷ t ∷ u ∷ kc ∷ oc ∷ [])
    (x0 ⊕ minus (x2 ⊗ x1) ⊕ x4) (x0 ⊕ x7)
    ((number (pos 1), x4 ⊕ (x9 ⊕ minus (x2 ⊗ item 10)) ⊗ x5, x6 ⊕ x2 ⊗ x3)
    ∷ (number (pos 1), x6, x7 ⊕ minus (x2 ⊗ x8))
    ∷ (x5, x2 ⊗ item 10, x9)
    ∷ (x2, x3, x1 ⊕ x8)
    ∷ [])
    (h0, (h1, (h2, (h3, (h4, (h5, (h6, (h7, (h8, (h9, (h10, tt)))))))))))
    (replaced, (less, (factor, (pivot, tt)))) refl

-- the pivoted row at the new values is the row at the old ones, where the pivot row gives y
pub row_value-pivoted_row : (constant other f y : Fraction) (ks os vs : List Fraction) (c : ℕ) (d : Fraction)
    → length ks ≡ length os → c < length ks → c < length vs
    → 0 < constant.den → 0 < other.den → 0 < f.den → 0 < y.den
    → All (λ k. 0 < k.den) ks → All (λ o. 0 < o.den) os → All (λ v. 0 < v.den) vs
    → IsSame (product_of f (get_or os c d)) (get_or ks c d) → IsSame y (row_value other os vs)
    → IsSame (row_value (pivoted_constant constant f other) (pivoted_row ks f os c) (set vs c y)) (row_value constant ks vs)
row_value-pivoted_row constant other f y ks os vs c d lengths in_row in_values hconstant hother hf hy hk ho hv factor pivot =
    let less = reduced_row ks f os in
    let less_den = reduced_row_den ks f os hf hk ho in
    let in_less : c < length less = omega (arith, length-reduced_row ks f os) in
    let in_others : c < length os = omega arith in
    let entry = get_or-reduced_row ks f os c d d d in_row in_others in
    let replaced = sum_of_products-set less vs c f y d d in_less in_values in
    keeps constant other f y (sum_of_products (set less c f) (set vs c y)) (get_or vs c d) (sum_of_products less vs) (sum_of_products ks vs) (sum_of_products os vs) (get_or ks c d) (get_or os c d)
    hconstant hother hf hy
    (sum_of_products_den (set less c f) (set vs c y) (All-set (λ k. 0 < k.den) less c f hf less_den) (All-set (λ v. 0 < v.den) vs c y hy hv))
    (All-get_or (λ v. 0 < v.den) vs c d in_values hv)
    (sum_of_products_den less vs less_den hv) (sum_of_products_den ks vs hk hv) (sum_of_products_den os vs ho hv)
    (All-get_or (λ k. 0 < k.den) ks c d in_row hk) (All-get_or (λ o. 0 < o.den) os c d in_others ho)
    (subst (λ entry. IsSame (sum_of (sum_of_products (set less c f) (set vs c y)) (product_of entry (get_or vs c d))) (sum_of (sum_of_products less vs) (product_of f y))) entry replaced)
    (sum_of_products-reduced_row ks f os vs lengths)
    factor pivot

-- ---- an unknown counted from another origin: its value falls by a shift, and the constant takes the shift's share
shifts : (constant k s t n q : Fraction) → 0 < constant.den → 0 < k.den → 0 < s.den → 0 < t.den → 0 < n.den → 0 < q.den
    → IsSame (sum_of n (product_of k q)) (sum_of t (product_of k (difference_of q s)))
    → IsSame (sum_of (sum_of constant (product_of k s)) n) (sum_of constant t)
shifts constant k s t n q h0 h1 h2 h3 h4 h5 e =
    same_given (constant ∷ k ∷ s ∷ t ∷ n ∷ q ∷ []) (x0 ⊕ x1 ⊗ x2 ⊕ x4) (x0 ⊕ x3)
    ((number (pos 1), x4 ⊕ x1 ⊗ x5, x3 ⊕ x1 ⊗ (x5 ⊕ minus x2)) ∷ [])
    (h0, (h1, (h2, (h3, (h4, (h5, tt)))))) (e, tt) refl

pub row_value-shifted : (constant shift : Fraction) (ks vs : List Fraction) (c : ℕ) (d : Fraction) → c < length ks → c < length vs
    → 0 < constant.den → 0 < shift.den → All (λ k. 0 < k.den) ks → All (λ v. 0 < v.den) vs
    → IsSame (row_value (sum_of constant (product_of (get_or ks c d) shift)) ks (set vs c (difference_of (get_or vs c d) shift))) (row_value constant ks vs)
row_value-shifted constant shift ks vs c d in_row in_values hconstant hshift hk hv =
    let here = All-get_or (λ v. 0 < v.den) vs c d in_values hv in
    let moved = difference_of (get_or vs c d) shift in
    shifts constant (get_or ks c d) shift (sum_of_products ks vs) (sum_of_products ks (set vs c moved)) (get_or vs c d)
    hconstant (All-get_or (λ k. 0 < k.den) ks c d in_row hk) hshift (sum_of_products_den ks vs hk hv)
    (sum_of_products_den ks (set vs c moved) hk (All-set (λ v. 0 < v.den) vs c moved (difference_of_den (get_or vs c d) shift here hshift) hv)) here
    (sum_of_products-set_value ks vs c moved d d in_row in_values)

-- ---- the same by columns: t and u give the two rows' numbers in the columns other than the pivot column
pub dot_product-reduced_row : {C : Type 0} (columns : List C) (f : Fraction) (t u x : C → Fraction)
    → IsSame (dot_product columns (λ c. difference_of (t c) (product_of f (u c))) x) (difference_of (dot_product columns t x) (product_of f (dot_product columns u x)))
dot_product-reduced_row [] f t u x = same_by_ring (f ∷ []) (number (pos 0)) (number (pos 0) ⊕ minus (x0 ⊗ number (pos 0))) refl
dot_product-reduced_row (c ∷ columns) f t u x =
    reduced_step (t c) f (u c) (x c) (dot_product columns t x) (dot_product columns u x)
    (dot_product columns (λ c. difference_of (t c) (product_of f (u c))) x) (dot_product-reduced_row columns f t u x)

keeps_by_column : (constant other f y p tc q t u n : Fraction)
    → 0 < constant.den → 0 < other.den → 0 < f.den → 0 < y.den → 0 < p.den → 0 < tc.den → 0 < q.den → 0 < t.den → 0 < u.den → 0 < n.den
    → IsSame n (difference_of t (product_of f u)) → IsSame (product_of f p) tc → IsSame y (sum_of other (sum_of (product_of p q) u))
    → IsSame (sum_of (difference_of constant (product_of f other)) (sum_of (product_of f y) n)) (sum_of constant (sum_of (product_of tc q) t))
keeps_by_column constant other f y p tc q t u n h0 h1 h2 h3 h4 h5 h6 h7 h8 h9 less factor pivot =
    same_given (constant ∷ other ∷ f ∷ y ∷ p ∷ tc ∷ q ∷ t ∷ u ∷ n ∷ [])
    (x0 ⊕ minus (x2 ⊗ x1) ⊕ (x2 ⊗ x3 ⊕ x9)) (x0 ⊕ (x5 ⊗ x6 ⊕ x7))
    ((number (pos 1), x9, x7 ⊕ minus (x2 ⊗ x8)) ∷ (x6, x2 ⊗ x4, x5) ∷ (x2, x3, x1 ⊕ (x4 ⊗ x6 ⊕ x8)) ∷ [])
    (h0, (h1, (h2, (h3, (h4, (h5, (h6, (h7, (h8, (h9, tt)))))))))) (less, (factor, (pivot, tt))) refl

-- p and tc stand in the pivot column of the pivot row and of the row, q is the value of that column's unknown
pub dot_product-pivoted : {C : Type 0} (columns : List C) (constant other f y p tc q : Fraction) (t u x : C → Fraction)
    → 0 < constant.den → 0 < other.den → 0 < f.den → 0 < y.den → 0 < p.den → 0 < tc.den → 0 < q.den
    → All (λ c. 0 < (t c).den) columns → All (λ c. 0 < (u c).den) columns → All (λ c. 0 < (x c).den) columns
    → IsSame (product_of f p) tc → IsSame y (sum_of other (sum_of (product_of p q) (dot_product columns u x)))
    → IsSame (sum_of (pivoted_constant constant f other) (sum_of (product_of f y) (dot_product columns (λ c. difference_of (t c) (product_of f (u c))) x)))
    (sum_of constant (sum_of (product_of tc q) (dot_product columns t x)))
dot_product-pivoted columns constant other f y p tc q t u x h0 h1 h2 h3 h4 h5 h6 ht hu hx factor pivot =
    keeps_by_column constant other f y p tc q (dot_product columns t x) (dot_product columns u x) (dot_product columns (λ c. difference_of (t c) (product_of f (u c))) x)
    h0 h1 h2 h3 h4 h5 h6
    (dot_product_den columns t x ht hx) (dot_product_den columns u x hu hx)
    (dot_product_den columns (λ c. difference_of (t c) (product_of f (u c))) x
    (λ i d below. difference_of_den (t (get_or columns i d)) (product_of f (u (get_or columns i d))) (ht i d below)
    (product_of_den f (u (get_or columns i d)) h2 (hu i d below))) hx)
    (dot_product-reduced_row columns f t u x) factor pivot

-- ---- what a pivot does to a row is linear in the row
linear_step : (y t c g r s e n : Fraction) → IsSame (difference_of s (product_of (product_of e g) r)) n
    → IsSame (difference_of (sum_of (product_of y t) s) (product_of (product_of (sum_of (product_of y c) e) g) r))
    (sum_of (product_of y (difference_of t (product_of (product_of c g) r))) n)
linear_step y t c g r s e n h =
    same_from (y ∷ t ∷ c ∷ g ∷ r ∷ s ∷ e ∷ n ∷ [])
    (x0 ⊗ x1 ⊕ x5 ⊕ minus ((x0 ⊗ x2 ⊕ x6) ⊗ x3 ⊗ x4)) (x0 ⊗ (x1 ⊕ minus (x2 ⊗ x3 ⊗ x4)) ⊕ x7)
    ((den_of (x0 ⊗ x0 ⊗ x0 ⊗ x1 ⊗ x1 ⊗ x2 ⊗ x2 ⊗ x3 ⊗ x4), x5 ⊕ minus (x6 ⊗ x3 ⊗ x4), x7) ∷ []) (h, tt) refl

pub pivoted_number-dot_product : {R : Type 0} (rows : List R) (y t p : R → Fraction) (g r : Fraction)
    → IsSame (pivoted_number (dot_product rows y t) (dot_product rows y p) g r) (dot_product rows y (λ i. pivoted_number (t i) (p i) g r))
pivoted_number-dot_product [] y t p g r = same_by_ring (g ∷ r ∷ []) (number (pos 0) ⊕ minus (number (pos 0) ⊗ x0 ⊗ x1)) (number (pos 0)) refl
pivoted_number-dot_product (i ∷ rows) y t p g r =
    linear_step (y i) (t i) (p i) g r (dot_product rows y t) (dot_product rows y p) (dot_product rows y (λ i. pivoted_number (t i) (p i) g r))
    (pivoted_number-dot_product rows y t p g r)
