-- Points of a box: a rational value for each variable, and what rows and the objective come to there; and the prefixes
-- in a box.
use Rattle.std.specs.Prelude.{ℕ, suc, ℤ, List, [], ◌∷◌}
use Rattle.qm_math.specs.Fraction.{Fraction, whole, HasPositiveDen, IsAtMost}
use Rattle.qm_math.specs.Arithmetic.{sum_of, product_of, quotient_of}
use Rattle.qm_math.specs.Ends.{IsWithin}
use Rattle.qm_math.specs.Ranges.{IsBetween}
use Rattle.qm_model.specs.declared.range.Range.{Range}
use Rattle.qm_model.specs.declared.row.Row.{Row}
use Rattle.qm_model.specs.declared.game.Problem.{Problem}
use Rattle.qm_model.specs.Linear.{coefficient}
use Rattle.qm_trees.specs.Evaluation.{zero}

-- one fraction for each range, each between its range's ends
abbrev pub IsInBox : List Range → List Fraction → Type 0
IsInBox [] [] = Unit {0}
IsInBox [] (x ∷ xs) = ⊥
IsInBox (r ∷ bx) [] = ⊥
IsInBox (r ∷ bx) (x ∷ xs) = HasPositiveDen x × IsWithin (whole r.low) (whole r.high) x × IsInBox bx xs

-- the prefix's values lie in the first ranges
abbrev pub BeginIn : List Range → List ℤ → Type 0
BeginIn bx [] = Unit {0}
BeginIn [] (v ∷ vs) = ⊥
BeginIn (r ∷ bx) (v ∷ vs) = IsBetween r.low r.high v × BeginIn bx vs

-- each coefficient times its variable's value, for the variables from `var` on, added up
abbrev pub form_of : (ℕ → Fraction) → ℕ → List Fraction → Fraction
form_of coefficient_at var [] = zero
form_of coefficient_at var (x ∷ xs) = sum_of (product_of (coefficient_at var) x) (form_of coefficient_at (suc var) xs)

-- the row holds at these values of all variables
abbrev pub HoldsAt : List Fraction → Row → Type 0
HoldsAt xs row = IsAtMost (form_of (λ var. whole (coefficient row.terms var)) 0 xs) (whole row.right)

-- the objective at these values of all variables
abbrev pub objective_of : Problem → List Fraction → Fraction
objective_of P xs = quotient_of (sum_of (form_of (λ var. whole (coefficient P.terms var)) 0 xs) (whole P.constant)) (whole P.scale)
