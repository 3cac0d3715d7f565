-- Sums of fractions over lists.
use Rattle.std.proofs.Common.{◌≡◌, refl, ap, ◌<◌, List, [], ◌∷◌, ◌++◌, map, get_or, All, ℤ, pos, ◌+ℤ◌}
use Rattle.std.proofs.lemmas.List.Elements.{All-head, All-tail}
use Rattle.qm_math.specs.Fraction.{Fraction, whole, IsSame, IsAtMost}
use Rattle.qm_math.specs.Arithmetic.{sum_of, negated, difference_of, product_of}
use Rattle.qm_math.specs.Sums.{sum_of_each}
use Rattle.qm_math.specs.Totals.{total_of}
use Rattle.qm_math.proofs.Polynomials.{number, ◌⊕◌, ◌⊗◌, minus}
use Rattle.qm_math.proofs.Ring.{x0, x1, x2, x3, x4}
use Rattle.qm_math.proofs.FractionRing.{den_of, same_by_ring, same_from}
use Rattle.qm_math.proofs.Compare.{at_most_trans}
use Rattle.qm_math.proofs.FractionLaws.{same_refl, same_sym, same_trans, sum_of-same, sum_of_den, product_of_den, product_of_comm, product_of-zero, zero-sum_of, sum_of-whole, whole_den}
use Rattle.qm_math.proofs.FractionOrder.{at_most_refl, at_most-same, sum_of-at_most}

-- ---- one step of a sum, from what is known of the rest; none of these asks anything of the denominators
pub append_step : (a t u v : Fraction) → IsSame t (sum_of u v) → IsSame (sum_of a t) (sum_of (sum_of a u) v)
append_step a t u v e =
    same_from (a ∷ t ∷ u ∷ v ∷ []) (x0 ⊕ x1) (x0 ⊕ x2 ⊕ x3) ((den_of (x0 ⊗ x0), x1, x2 ⊕ x3) ∷ []) (e, tt) refl

pub scaled_step : (k a t u : Fraction) → IsSame (product_of k t) u → IsSame (product_of k (sum_of a t)) (sum_of (product_of k a) u)
scaled_step k a t u e =
    same_from (k ∷ a ∷ t ∷ u ∷ []) (x0 ⊗ (x1 ⊕ x2)) (x0 ⊗ x1 ⊕ x3) ((den_of (x0 ⊗ x1 ⊗ x1), x0 ⊗ x2, x3) ∷ []) (e, tt) refl

pub sum_step : (a b t u v : Fraction) → IsSame t (sum_of u v) → IsSame (sum_of (sum_of a b) t) (sum_of (sum_of a u) (sum_of b v))
sum_step a b t u v e =
    same_from (a ∷ b ∷ t ∷ u ∷ v ∷ []) (x0 ⊕ x1 ⊕ x2) (x0 ⊕ x3 ⊕ (x1 ⊕ x4)) ((den_of (x0 ⊗ x0 ⊗ x1 ⊗ x1), x2, x3 ⊕ x4) ∷ []) (e, tt) refl

pub negated_step : (a t u : Fraction) → IsSame (negated t) u → IsSame (negated (sum_of a t)) (sum_of (negated a) u)
negated_step a t u e =
    same_from (a ∷ t ∷ u ∷ []) (minus (x0 ⊕ x1)) (minus x0 ⊕ x2) ((den_of (x0 ⊗ x0), minus x1, x2) ∷ []) (e, tt) refl

pub zero_step : (t : Fraction) → IsSame t (whole (pos 0)) → IsSame (sum_of (whole (pos 0)) t) (whole (pos 0))
zero_step t e =
    same_from (t ∷ []) (number (pos 0) ⊕ x0) (number (pos 0)) ((number (pos 1), x0, number (pos 0)) ∷ []) (e, tt) refl

-- ---- the laws
pub total_of_den : {A : Type 0} (f : A → Fraction) (xs : List A) → All (λ x. 0 < (f x).den) xs → 0 < (total_of f xs).den
total_of_den f [] h = whole_den (pos 0)
total_of_den f (x ∷ xs) h =
    sum_of_den (f x) (total_of f xs) (All-head (λ x. 0 < (f x).den) x xs h) (total_of_den f xs (All-tail (λ x. 0 < (f x).den) x xs h))

pub total_of-append : {A : Type 0} (f : A → Fraction) (xs ys : List A)
    → IsSame (total_of f (xs ++ ys)) (sum_of (total_of f xs) (total_of f ys))
total_of-append f [] ys = same_sym (sum_of (whole (pos 0)) (total_of f ys)) (total_of f ys) (zero-sum_of (total_of f ys))
total_of-append f (x ∷ xs) ys = append_step (f x) (total_of f (xs ++ ys)) (total_of f xs) (total_of f ys) (total_of-append f xs ys)

pub total_of-map : {A B : Type 0} (f : B → Fraction) (g : A → B) (xs : List A) → total_of f (map g xs) ≡ total_of (λ x. f (g x)) xs
total_of-map f g [] = refl
total_of-map f g (x ∷ xs) = ap (λ t. sum_of (f (g x)) t) (total_of-map f g xs)

pub product_of-total_of : {A : Type 0} (k : Fraction) (f : A → Fraction) (xs : List A)
    → IsSame (product_of k (total_of f xs)) (total_of (λ x. product_of k (f x)) xs)
product_of-total_of k f [] = product_of-zero k
product_of-total_of k f (x ∷ xs) =
    scaled_step k (f x) (total_of f xs) (total_of (λ x. product_of k (f x)) xs) (product_of-total_of k f xs)

pub negated-total_of : {A : Type 0} (f : A → Fraction) (xs : List A) → IsSame (negated (total_of f xs)) (total_of (λ x. negated (f x)) xs)
unfolding negated
negated-total_of f [] = refl
negated-total_of f (x ∷ xs) = negated_step (f x) (total_of f xs) (total_of (λ x. negated (f x)) xs) (negated-total_of f xs)

pub total_of-sum_of : {A : Type 0} (f g : A → Fraction) (xs : List A)
    → IsSame (total_of (λ x. sum_of (f x) (g x)) xs) (sum_of (total_of f xs) (total_of g xs))
total_of-sum_of f g [] = same_sym (sum_of (whole (pos 0)) (whole (pos 0))) (whole (pos 0)) (zero-sum_of (whole (pos 0)))
total_of-sum_of f g (x ∷ xs) =
    sum_step (f x) (g x) (total_of (λ x. sum_of (f x) (g x)) xs) (total_of f xs) (total_of g xs) (total_of-sum_of f g xs)

pub total_of-zero : {A : Type 0} (xs : List A) → IsSame (total_of (λ x. whole (pos 0)) xs) (whole (pos 0))
total_of-zero [] = refl
total_of-zero (x ∷ xs) = zero_step (total_of (λ x. whole (pos 0)) xs) (total_of-zero xs)

pub total_of-same : {A : Type 0} (f g : A → Fraction) (xs : List A) → All (λ x. IsSame (f x) (g x)) xs → IsSame (total_of f xs) (total_of g xs)
total_of-same f g [] e = refl
total_of-same f g (x ∷ xs) e =
    sum_of-same (f x) (total_of f xs) (g x) (total_of g xs)
    (All-head (λ x. IsSame (f x) (g x)) x xs e) (total_of-same f g xs (All-tail (λ x. IsSame (f x) (g x)) x xs e))

pub total_of-at_most : {A : Type 0} (f g : A → Fraction) (xs : List A) → All (λ x. IsAtMost (f x) (g x)) xs → IsAtMost (total_of f xs) (total_of g xs)
total_of-at_most f g [] h = at_most_refl (whole (pos 0))
total_of-at_most f g (x ∷ xs) h =
    sum_of-at_most (f x) (total_of f xs) (g x) (total_of g xs)
    (All-head (λ x. IsAtMost (f x) (g x)) x xs h) (total_of-at_most f g xs (All-tail (λ x. IsAtMost (f x) (g x)) x xs h))

-- the number on the right
pub total_of-product_of : {A : Type 0} (k : Fraction) (f : A → Fraction) (xs : List A) → 0 < k.den → All (λ x. 0 < (f x).den) xs
    → IsSame (product_of (total_of f xs) k) (total_of (λ x. product_of (f x) k) xs)
total_of-product_of k f xs hk h =
    let turned = total_of (λ x. product_of k (f x)) xs in
    same_trans (product_of (total_of f xs) k) (product_of k (total_of f xs)) (total_of (λ x. product_of (f x) k) xs)
    (product_of_den k (total_of f xs) hk (total_of_den f xs h))
    (product_of_comm (total_of f xs) k)
    (same_trans (product_of k (total_of f xs)) turned (total_of (λ x. product_of (f x) k) xs)
    (total_of_den (λ x. product_of k (f x)) xs (λ i d below. product_of_den k (f (get_or xs i d)) hk (h i d below)))
    (product_of-total_of k f xs)
    (total_of-same (λ x. product_of k (f x)) (λ x. product_of (f x) k) xs (λ i d below. product_of_comm k (f (get_or xs i d)))))

-- a sum of whole numbers among the fractions
pub total_of-whole : {A : Type 0} (f : A → ℤ) (xs : List A) → IsSame (total_of (λ x. whole (f x)) xs) (whole (sum_of_each f xs))
total_of-whole f [] = refl
total_of-whole f (x ∷ xs) =
    same_trans (sum_of (whole (f x)) (total_of (λ x. whole (f x)) xs)) (sum_of (whole (f x)) (whole (sum_of_each f xs))) (whole (f x +ℤ sum_of_each f xs))
    (sum_of_den (whole (f x)) (whole (sum_of_each f xs)) (whole_den (f x)) (whole_den (sum_of_each f xs)))
    (sum_of-same (whole (f x)) (total_of (λ x. whole (f x)) xs) (whole (f x)) (whole (sum_of_each f xs)) (same_refl (whole (f x))) (total_of-whole f xs))
    (sum_of-whole (f x) (sum_of_each f xs))

-- the two sums of a double sum change places
pub total_of_exchange : {A B : Type 0} (f : A → B → Fraction) (xs : List A) (ys : List B)
    → All (λ x. All (λ y. 0 < (f x y).den) ys) xs
    → IsSame (total_of (λ x. total_of (f x) ys) xs) (total_of (λ y. total_of (λ x. f x y) xs) ys)
total_of_exchange f [] ys h = same_sym (total_of (λ y. whole (pos 0)) ys) (whole (pos 0)) (total_of-zero ys)
total_of_exchange f (x ∷ xs) ys h =
    let first = total_of (f x) ys in
    let rest = total_of (λ z. total_of (f z) ys) xs in
    let turned = total_of (λ y. total_of (λ z. f z y) xs) ys in
    let later : All (λ z. All (λ y. 0 < (f z y).den) ys) xs = All-tail (λ z. All (λ y. 0 < (f z y).den) ys) x xs h in
    let first_den = total_of_den (f x) ys (All-head (λ z. All (λ y. 0 < (f z y).den) ys) x xs h) in
    let turned_den = total_of_den (λ y. total_of (λ z. f z y) xs) ys
    (λ k d below. total_of_den (λ z. f z (get_or ys k d)) xs (λ j e low. later j e low k d below)) in
    same_trans (sum_of first rest) (sum_of first turned) (total_of (λ y. sum_of (f x y) (total_of (λ z. f z y) xs)) ys)
    (sum_of_den first turned first_den turned_den)
    (sum_of-same first rest first turned (same_refl first) (total_of_exchange f xs ys later))
    (same_sym (total_of (λ y. sum_of (f x y) (total_of (λ z. f z y) xs)) ys) (sum_of first turned)
    (total_of-sum_of (f x) (λ y. total_of (λ z. f z y) xs) ys))

-- a sum of numbers that are not negative
pub total_of-nonneg : {A : Type 0} (f : A → Fraction) (xs : List A) → All (λ x. IsAtMost (whole (pos 0)) (f x)) xs → IsAtMost (whole (pos 0)) (total_of f xs)
total_of-nonneg f xs h =
    at_most_trans (whole (pos 0)) (total_of (λ x. whole (pos 0)) xs) (total_of f xs)
    (total_of_den (λ x. whole (pos 0)) xs (λ i d below. whole_den (pos 0)))
    (at_most-same (whole (pos 0)) (total_of (λ x. whole (pos 0)) xs) (same_sym (total_of (λ x. whole (pos 0)) xs) (whole (pos 0)) (total_of-zero xs)))
    (total_of-at_most (λ x. whole (pos 0)) f xs h)

-- a sum of differences
pub total_of-difference_of : {A : Type 0} (f g : A → Fraction) (xs : List A)
    → IsSame (total_of (λ x. difference_of (f x) (g x)) xs) (difference_of (total_of f xs) (total_of g xs))
total_of-difference_of f g [] = same_by_ring [] (number (pos 0)) (number (pos 0) ⊕ minus (number (pos 0))) refl
total_of-difference_of f g (x ∷ xs) =
    difference_step (f x) (g x) (total_of (λ z. difference_of (f z) (g z)) xs) (total_of f xs) (total_of g xs) (total_of-difference_of f g xs)
  where
    difference_step : (a b t u v : Fraction) → IsSame t (difference_of u v) → IsSame (sum_of (difference_of a b) t) (difference_of (sum_of a u) (sum_of b v))
    difference_step a b t u v e =
        same_from (a ∷ b ∷ t ∷ u ∷ v ∷ []) (x0 ⊕ minus x1 ⊕ x2) (x0 ⊕ x3 ⊕ minus (x1 ⊕ x4)) ((den_of (x0 ⊗ x0 ⊗ x1 ⊗ x1), x2, x3 ⊕ minus x4) ∷ []) (e, tt) refl
