-- Rows as lists of fractions, and their combinations with lists of values.
use Rattle.std.proofs.Common.{◌≡◌, refl, ap, ℕ, zero, suc, ◌<◌, arith, List, [], ◌∷◌, length, get_or, set, All, pos}
use Rattle.std.specs.List.{AllZip}
use Rattle.std.proofs.lemmas.List.Elements.{All-nil, All-cons, All-head, All-tail}
use Rattle.qm_math.specs.Fraction.{Fraction, IsSame}
use Rattle.qm_math.specs.Arithmetic.{sum_of, difference_of, product_of}
use Rattle.qm_math.specs.Totals.{sum_of_products, reduced_row}
use Rattle.qm_math.proofs.Polynomials.{number, ◌⊕◌, ◌⊗◌, minus}
use Rattle.qm_math.proofs.Ring.{x0, x1, x2, x3, x4, x5, x6}
use Rattle.qm_math.proofs.FractionRing.{den_of, same_by_ring, same_from}
use Rattle.qm_math.proofs.FractionLaws.{whole_den, sum_of_den, product_of_den, difference_of_den, sum_of-same, product_of-same, sum_of_later}

pub sum_of_products_den : (ks vs : List Fraction) → All (λ k. 0 < k.den) ks → All (λ v. 0 < v.den) vs → 0 < (sum_of_products ks vs).den
sum_of_products_den [] vs hk hv = whole_den (pos 0)
sum_of_products_den (k ∷ ks) [] hk hv = whole_den (pos 0)
sum_of_products_den (k ∷ ks) (v ∷ vs) hk hv =
    sum_of_den (product_of k v) (sum_of_products ks vs)
    (product_of_den k v (All-head (λ x. 0 < x.den) k ks hk) (All-head (λ x. 0 < x.den) v vs hv))
    (sum_of_products_den ks vs (All-tail (λ x. 0 < x.den) k ks hk) (All-tail (λ x. 0 < x.den) v vs hv))

-- rows and values replaced by the same numbers, place by place
pub sum_of_products-same : (ks ls vs ws : List Fraction) → AllZip IsSame ks ls → AllZip IsSame vs ws → IsSame (sum_of_products ks vs) (sum_of_products ls ws)
sum_of_products-same [] [] vs ws e f = refl
sum_of_products-same [] (l ∷ ls) vs ws e f = absurd e
sum_of_products-same (k ∷ ks) [] vs ws e f = absurd e
sum_of_products-same (k ∷ ks) (l ∷ ls) [] [] e f = refl
sum_of_products-same (k ∷ ks) (l ∷ ls) [] (w ∷ ws) e f = absurd f
sum_of_products-same (k ∷ ks) (l ∷ ls) (v ∷ vs) [] e f = absurd f
sum_of_products-same (k ∷ ks) (l ∷ ls) (v ∷ vs) (w ∷ ws) e f =
    sum_of-same (product_of k v) (sum_of_products ks vs) (product_of l w) (sum_of_products ls ws)
    (product_of-same k v l w e.0 f.0) (sum_of_products-same ks ls vs ws e.1 f.1)

-- ---- a multiple of another row taken away
pub length-reduced_row : (ks : List Fraction) (f : Fraction) (os : List Fraction) → length (reduced_row ks f os) ≡ length ks
length-reduced_row [] f os = refl
length-reduced_row (k ∷ ks) f [] = refl
length-reduced_row (k ∷ ks) f (o ∷ os) = ap suc (length-reduced_row ks f os)

pub get_or-reduced_row : (ks : List Fraction) (f : Fraction) (os : List Fraction) (c : ℕ) (d e g : Fraction) → c < length ks → c < length os
    → get_or (reduced_row ks f os) c d ≡ difference_of (get_or ks c e) (product_of f (get_or os c g))
get_or-reduced_row [] f os c d e g h i = absurd (omega arith)
get_or-reduced_row (k ∷ ks) f [] c d e g h i = absurd (omega arith)
get_or-reduced_row (k ∷ ks) f (o ∷ os) zero d e g h i = refl
get_or-reduced_row (k ∷ ks) f (o ∷ os) (suc c) d e g h i = get_or-reduced_row ks f os c d e g (omega arith) (omega arith)

pub reduced_row_den : (ks : List Fraction) (f : Fraction) (os : List Fraction) → 0 < f.den → All (λ k. 0 < k.den) ks → All (λ o. 0 < o.den) os
    → All (λ k. 0 < k.den) (reduced_row ks f os)
reduced_row_den [] f os hf hk ho = All-nil (λ k. 0 < k.den)
reduced_row_den (k ∷ ks) f [] hf hk ho = hk
reduced_row_den (k ∷ ks) f (o ∷ os) hf hk ho =
    All-cons (λ k. 0 < k.den) (difference_of k (product_of f o)) (reduced_row ks f os)
    (difference_of_den k (product_of f o) (All-head (λ x. 0 < x.den) k ks hk) (product_of_den f o hf (All-head (λ x. 0 < x.den) o os ho)))
    (reduced_row_den ks f os hf (All-tail (λ x. 0 < x.den) k ks hk) (All-tail (λ x. 0 < x.den) o os ho))

pub reduced_step : (k f o v t u n : Fraction) → IsSame n (difference_of t (product_of f u))
    → IsSame (sum_of (product_of (difference_of k (product_of f o)) v) n)
    (difference_of (sum_of (product_of k v) t) (product_of f (sum_of (product_of o v) u)))
reduced_step k f o v t u n e =
    same_from (k ∷ f ∷ o ∷ v ∷ t ∷ u ∷ n ∷ [])
    ((x0 ⊕ minus (x1 ⊗ x2)) ⊗ x3 ⊕ x6) (x0 ⊗ x3 ⊕ x4 ⊕ minus (x1 ⊗ (x2 ⊗ x3 ⊕ x5)))
    ((den_of (x0 ⊗ x0 ⊗ x1 ⊗ x2 ⊗ x2 ⊗ x3 ⊗ x3 ⊗ x3), x6, x4 ⊕ minus (x1 ⊗ x5)) ∷ []) (e, tt) refl

pub sum_of_products-reduced_row : (ks : List Fraction) (f : Fraction) (os vs : List Fraction) → length ks ≡ length os
    → IsSame (sum_of_products (reduced_row ks f os) vs) (difference_of (sum_of_products ks vs) (product_of f (sum_of_products os vs)))
sum_of_products-reduced_row [] f [] vs e = same_by_ring (f ∷ []) (number (pos 0)) (number (pos 0) ⊕ minus (x0 ⊗ number (pos 0))) refl
sum_of_products-reduced_row [] f (o ∷ os) vs e = absurd (omega arith)
sum_of_products-reduced_row (k ∷ ks) f [] vs e = absurd (omega arith)
sum_of_products-reduced_row (k ∷ ks) f (o ∷ os) [] e = same_by_ring (f ∷ []) (number (pos 0)) (number (pos 0) ⊕ minus (x0 ⊗ number (pos 0))) refl
sum_of_products-reduced_row (k ∷ ks) f (o ∷ os) (v ∷ vs) e =
    reduced_step k f o v (sum_of_products ks vs) (sum_of_products os vs) (sum_of_products (reduced_row ks f os) vs) (sum_of_products-reduced_row ks f os vs (omega arith))

-- ---- a number and a value put in one place
set_here : (k l v w t : Fraction) → IsSame (sum_of (sum_of (product_of l w) t) (product_of k v)) (sum_of (sum_of (product_of k v) t) (product_of l w))
set_here k l v w t = same_by_ring (k ∷ l ∷ v ∷ w ∷ t ∷ []) (x1 ⊗ x3 ⊕ x4 ⊕ x0 ⊗ x2) (x0 ⊗ x2 ⊕ x4 ⊕ x1 ⊗ x3) refl

pub sum_of_products-set : (ks vs : List Fraction) (c : ℕ) (l w d e : Fraction) → c < length ks → c < length vs
    → IsSame (sum_of (sum_of_products (set ks c l) (set vs c w)) (product_of (get_or ks c d) (get_or vs c e))) (sum_of (sum_of_products ks vs) (product_of l w))
sum_of_products-set [] vs c l w d e h i = absurd (omega arith)
sum_of_products-set (k ∷ ks) [] c l w d e h i = absurd (omega arith)
sum_of_products-set (k ∷ ks) (v ∷ vs) zero l w d e h i = set_here k l v w (sum_of_products ks vs)
sum_of_products-set (k ∷ ks) (v ∷ vs) (suc c) l w d e h i =
    sum_of_later (product_of k v) (sum_of_products (set ks c l) (set vs c w)) (product_of (get_or ks c d) (get_or vs c e)) (sum_of_products ks vs) (product_of l w)
    (sum_of_products-set ks vs c l w d e (omega arith) (omega arith))

-- a value put in one place
pub sum_of_products-set_value : (ks vs : List Fraction) (c : ℕ) (w d e : Fraction) → c < length ks → c < length vs
    → IsSame (sum_of (sum_of_products ks (set vs c w)) (product_of (get_or ks c d) (get_or vs c e))) (sum_of (sum_of_products ks vs) (product_of (get_or ks c d) w))
sum_of_products-set_value [] vs c w d e h i = absurd (omega arith)
sum_of_products-set_value (k ∷ ks) [] c w d e h i = absurd (omega arith)
sum_of_products-set_value (k ∷ ks) (v ∷ vs) zero w d e h i = set_here k k v w (sum_of_products ks vs)
sum_of_products-set_value (k ∷ ks) (v ∷ vs) (suc c) w d e h i =
    sum_of_later (product_of k v) (sum_of_products ks (set vs c w)) (product_of (get_or ks c d) (get_or vs c e)) (sum_of_products ks vs) (product_of (get_or ks c d) w)
    (sum_of_products-set_value ks vs c w d e (omega arith) (omega arith))
