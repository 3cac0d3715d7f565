-- Fractions over one denominator are added, scaled and compared by their numerators.
use Rattle.std.proofs.Common.{refl, ℕ, zero, suc, ◌*◌, ◌<◌, ◌↔◌, arith, mul-pos, List, [], ◌∷◌, map, All, ℤ, pos, negsuc, ◌+ℤ◌, ◌*ℤ◌, ◌≤ℤ◌, ◌<ℤ◌, unsigned_abs}
use Rattle.std.specs.List.{AllZip}
use Rattle.std.proofs.lemmas.List.Elements.{All-head, All-tail}
use Rattle.std.proofs.lemmas.Int.{ints}
use Rattle.qm_math.specs.Fraction.{Fraction, whole, IsSame, IsAtMost, IsBelow}
use Rattle.qm_math.specs.Arithmetic.{sum_of, product_of, inverse_of, quotient_of}
use Rattle.qm_math.specs.Sums.{sum_of_each}
use Rattle.qm_math.specs.Totals.{total_of}
use Rattle.qm_math.specs.Combinations.{dot_product}
use Rattle.qm_math.specs.Over.{over, common_den, common_nums}
use Rattle.qm_math.proofs.Whole.{scaled_le, scaled_lt, cancel_le, cancel_lt}
use Rattle.qm_math.proofs.Polynomials.{number, ◌⊕◌, ◌⊗◌}
use Rattle.qm_math.proofs.Ring.{x0, x1, x2, x3, x4, x5, ring, ring_from}

pub sum_of-over : (d : ℕ) (m n : ℤ) → IsSame (sum_of (over d m) (over d n)) (over d (m +ℤ n))
unfolding sum_of
sum_of-over d m n = ring (m ∷ n ∷ pos d ∷ []) ((x0 ⊗ x2 ⊕ x1 ⊗ x2) ⊗ x2) ((x0 ⊕ x1) ⊗ (x2 ⊗ x2)) refl

pub product_of-whole-over : (k : ℤ) (d : ℕ) (n : ℤ) → IsSame (product_of (whole k) (over d n)) (over d (k *ℤ n))
unfolding product_of
product_of-whole-over k d n = ring (k ∷ n ∷ pos d ∷ []) (x0 ⊗ x1 ⊗ x2) (x0 ⊗ x1 ⊗ (number (pos 1) ⊗ x2)) refl

-- divided by a positive whole number
pub quotient_of-over : (d : ℕ) (n k : ℤ) → pos 1 ≤ℤ k → IsSame (quotient_of (over d n) (whole k)) (over (unsigned_abs k * d) n)
unfolding product_of inverse_of
quotient_of-over d n (pos zero) h = absurd (omega (arith, ints))
quotient_of-over d n (pos (suc m)) h =
    ring (n ∷ pos (suc m) ∷ pos d ∷ []) ((x0 ⊗ (number (pos 1) ⊗ number (pos 1))) ⊗ (x1 ⊗ x2)) (x0 ⊗ (x2 ⊗ x1)) refl
quotient_of-over d n (negsuc m) h = absurd (omega (arith, ints))

pub over-at_most : (d : ℕ) (m n : ℤ) → 0 < d → IsAtMost (over d m) (over d n) ↔ (m ≤ℤ n)
over-at_most d m n h = (λ k. cancel_le m n d h k, λ k. scaled_le m n d k)

pub over-below : (d : ℕ) (m n : ℤ) → 0 < d → IsBelow (over d m) (over d n) ↔ (m <ℤ n)
over-below d m n h = (λ k. cancel_lt m n d k, λ k. scaled_lt m n d h k)

pub over-at_most-whole : (d : ℕ) (n k : ℤ) → IsAtMost (over d n) (whole k) ↔ (n ≤ℤ (k *ℤ pos d))
over-at_most-whole d n k = (λ h. omega (arith, ints, h), λ h. omega (arith, ints, h))

pub whole-at_most-over : (d : ℕ) (k n : ℤ) → IsAtMost (whole k) (over d n) ↔ ((k *ℤ pos d) ≤ℤ n)
whole-at_most-over d k n = (λ h. omega (arith, ints, h), λ h. omega (arith, ints, h))

pub whole-over : (d : ℕ) (k : ℤ) → IsSame (whole k) (over d (k *ℤ pos d))
whole-over d k = ring (k ∷ pos d ∷ []) (x0 ⊗ x1) (x0 ⊗ x1 ⊗ number (pos 1)) refl

-- more of the same factor above and below
pub over-scaled : (d k : ℕ) (n : ℤ) → IsSame (over d n) (over (d * k) (n *ℤ pos k))
over-scaled d k n = ring (n ∷ pos d ∷ pos k ∷ []) (x0 ⊗ (x1 ⊗ x2)) (x0 ⊗ x2 ⊗ x1) refl

over_step : (d : ℕ) (m n : ℤ) (t : Fraction) → IsSame t (over d n) → IsSame (sum_of (over d m) t) (over d (m +ℤ n))
unfolding sum_of
over_step d m n t e =
    ring_from (m ∷ n ∷ pos d ∷ t.num ∷ pos t.den ∷ []) ((x0 ⊗ x4 ⊕ x3 ⊗ x2) ⊗ x2) ((x0 ⊕ x1) ⊗ (x2 ⊗ x4))
    ((x2, x3 ⊗ x2, x1 ⊗ x4) ∷ []) (e, tt) refl

pub total_of-over : {A : Type 0} (d : ℕ) (f : A → ℤ) (xs : List A) → IsSame (total_of (λ x. over d (f x)) xs) (over d (sum_of_each f xs))
total_of-over d f [] = omega (arith, ints)
total_of-over d f (x ∷ xs) = over_step d (f x) (sum_of_each f xs) (total_of (λ x. over d (f x)) xs) (total_of-over d f xs)

-- a row of whole numbers at values over one denominator
pub value_step : (d : ℕ) (k m n : ℤ) (t : Fraction) → IsSame t (over d n) → IsSame (sum_of (product_of (whole k) (over d m)) t) (over d ((k *ℤ m) +ℤ n))
unfolding sum_of product_of
value_step d k m n t e =
    ring_from (m ∷ n ∷ pos d ∷ t.num ∷ pos t.den ∷ k ∷ []) ((x5 ⊗ x0 ⊗ x4 ⊕ x3 ⊗ (number (pos 1) ⊗ x2)) ⊗ x2) ((x5 ⊗ x0 ⊕ x1) ⊗ (number (pos 1) ⊗ x2 ⊗ x4))
    ((x2, x3 ⊗ x2, x1 ⊗ x4) ∷ []) (e, tt) refl

pub dot_product-over : {C : Type 0} (d : ℕ) (columns : List C) (k x : C → ℤ)
    → IsSame (dot_product columns (λ c. whole (k c)) (λ c. over d (x c))) (over d (sum_of_each (λ c. k c *ℤ x c) columns))
dot_product-over d [] k x = omega (arith, ints)
dot_product-over d (c ∷ columns) k x =
    value_step d (k c) (x c) (sum_of_each (λ c. k c *ℤ x c) columns) (dot_product columns (λ c. whole (k c)) (λ c. over d (x c))) (dot_product-over d columns k x)

-- ---- any fractions over their common denominator
pub common_den_pos : (xs : List Fraction) → All (λ x. 0 < x.den) xs → 0 < common_den xs
common_den_pos [] h = omega arith
common_den_pos (x ∷ xs) h = mul-pos (All-head (λ x. 0 < x.den) x xs h) (common_den_pos xs (All-tail (λ x. 0 < x.den) x xs h))

scaled_zip : (d k : ℕ) (ns : List ℤ) (xs : List Fraction) → AllZip IsSame (map (over d) ns) xs → AllZip IsSame (map (over (k * d)) (map (λ n. n *ℤ pos k) ns)) xs
scaled_zip d k [] [] h = tt
scaled_zip d k [] (x ∷ xs) h = absurd h
scaled_zip d k (n ∷ ns) [] h = absurd h
scaled_zip d k (n ∷ ns) (x ∷ xs) h = (scaled_same d k n x h.0, scaled_zip d k ns xs h.1)
  where
    scaled_same : (d k : ℕ) (n : ℤ) (x : Fraction) → IsSame (over d n) x → IsSame (over (k * d) (n *ℤ pos k)) x
    scaled_same d k n x e =
        ring_from (n ∷ pos d ∷ pos k ∷ x.num ∷ pos x.den ∷ []) (x0 ⊗ x2 ⊗ x4) (x3 ⊗ (x2 ⊗ x1)) ((x2, x0 ⊗ x4, x3 ⊗ x1) ∷ []) (e, tt) refl

pub common_nums-same : (xs : List Fraction) → AllZip IsSame (map (over (common_den xs)) (common_nums xs)) xs
common_nums-same [] = tt
common_nums-same (x ∷ xs) = (
  ring (x.num ∷ pos x.den ∷ pos (common_den xs) ∷ []) (x0 ⊗ x2 ⊗ x1) (x0 ⊗ (x1 ⊗ x2)) refl,
  scaled_zip (common_den xs) x.den (common_nums xs) xs (common_nums-same xs),
)
