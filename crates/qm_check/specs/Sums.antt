-- For each variable the sum so far of its coefficient, or the operation on the way to it that leaves.
use Rattle.std.specs.Prelude.{◌≡◌, ℕ, suc, ◌<◌, ℤ, List, [], ◌∷◌, Ok, length, slice_index_or}
use Rattle.qm_math.specs.Fraction.{Fraction, whole}
use Rattle.qm_frac.specs.Checked.{Checked, and_then, added, multiplied, subtracted}
use Rattle.qm_model.specs.declared.range.Range.{Range}
use Rattle.qm_trees.specs.Evaluation.{zero, add_least}

abbrev pub sum_of_var : List (Checked Fraction) → ℕ → Checked Fraction
sum_of_var sums var = slice_index_or sums var (Ok zero)

-- each variable's sum is this
abbrev pub AreSums : (ℕ → Checked Fraction) → List (Checked Fraction) → Type 0
AreSums f sums = (var : ℕ) → var < length sums → sum_of_var sums var ≡ f var

-- to a sum, a multiplier times a coefficient is added
abbrev pub plus_product : Checked Fraction → Fraction → ℤ → Checked Fraction
plus_product sum by k = and_then sum (λ c. and_then (multiplied by (whole k)) (λ p. added c p))

-- from a sum, a coefficient is taken away
abbrev pub less : Checked Fraction → ℤ → Checked Fraction
less sum k = and_then sum (λ c. subtracted c (whole k))

-- to the sum so far, each variable's coefficient times its better end is added, for the variables from `var` on
abbrev pub add_least_ends : (ℕ → Checked Fraction) → ℕ → List Range → Fraction → Checked Fraction
add_least_ends coefficient_at var [] s = Ok s
add_least_ends coefficient_at var (r ∷ bx) s =
    and_then (and_then (coefficient_at var) (λ c. add_least c r s)) (λ t. add_least_ends coefficient_at (suc var) bx t)
