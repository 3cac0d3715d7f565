-- Sums of fractions over the items of lists.
use Rattle.std.specs.Prelude.{pos, List, [], ◌∷◌}
use Rattle.qm_math.specs.Fraction.{Fraction, whole}
use Rattle.qm_math.specs.Arithmetic.{sum_of, difference_of, product_of}

-- what f gives for each item, added up
abbrev pub total_of : {A : Type 0} → (A → Fraction) → List A → Fraction
total_of f [] = whole (pos 0)
total_of f (a ∷ items) = sum_of (f a) (total_of f items)

-- each coefficient times the value in its place, added up; the shorter list ends the sum
abbrev pub sum_of_products : List Fraction → List Fraction → Fraction
sum_of_products [] values = whole (pos 0)
sum_of_products (k ∷ ks) [] = whole (pos 0)
sum_of_products (k ∷ ks) (v ∷ vs) = sum_of (product_of k v) (sum_of_products ks vs)

-- from each number of a row, factor times the number of the other row in its place is taken away
abbrev pub reduced_row : List Fraction → Fraction → List Fraction → List Fraction
reduced_row [] factor others = []
reduced_row (k ∷ ks) factor [] = k ∷ ks
reduced_row (k ∷ ks) factor (o ∷ others) = difference_of k (product_of factor o) ∷ reduced_row ks factor others
