-- The least value of a combination's form, by the sums of the variables' coefficients.
use Rattle.std.proofs.Common.{◌≡◌, ◌∙◌, refl, ap, ℕ, suc, ◌+◌, ◌<◌, Bool, List, [], ◌∷◌, length, Ok, Err, arith}
use Rattle.qm_math.specs.Fraction.{Fraction}
use Rattle.qm_frac.specs.Checked.{Checked, and_then}
use Rattle.qm_model.specs.declared.range.Range.{Range}
use Rattle.qm_model.specs.declared.game.Problem.{Problem}
use Rattle.qm_trees.specs.Entries.{Weighted}
use Rattle.qm_trees.specs.Evaluation.{zero as nothing, add_coefficients, add_least, add_variables, less_objective}
use Rattle.qm_check.specs.Sums.{AreSums, add_least_ends, sum_of_var}

-- what follows an answer, where it is the same for each value
same_next : (x : Checked Fraction) (f g : Fraction → Checked Fraction) → ((t : Fraction) → f t ≡ g t) → and_then x f ≡ and_then x g
same_next (Ok t) f g same = same t
same_next (Err leaves) f g same = refl

-- equal coefficients give equal sums
same_ends : (f g : ℕ → Checked Fraction) (var : ℕ) (bx : List Range) (s : Fraction) → ((v : ℕ) → v < var + length bx → f v ≡ g v)
    → add_least_ends f var bx s ≡ add_least_ends g var bx s
same_ends f g var [] s same = refl
same_ends f g var (r ∷ bx) s same =
    let here : f var ≡ g var = same var (omega arith) in
    ap (λ x. and_then (and_then x (λ c. add_least c r s)) (λ t. add_least_ends f (suc var) bx t)) here
    ∙ same_next (and_then (g var) (λ c. add_least c r s)) (λ t. add_least_ends f (suc var) bx t) (λ t. add_least_ends g (suc var) bx t)
    (λ t. same_ends f g (suc var) bx t (λ v below. same v (omega (arith, below))))

three : (x : Checked Fraction) (f g : Fraction → Checked Fraction) (h k : Fraction → Checked Fraction) → ((t : Fraction) → h t ≡ k t)
    → and_then (and_then (and_then x f) g) h ≡ and_then x (λ a. and_then (f a) (λ c. and_then (g c) k))
three (Err leaves) f g h k same = refl
three (Ok a) f g h k same = two (f a)
  where
    two : (y : Checked Fraction) → and_then (and_then y g) h ≡ and_then y (λ c. and_then (g c) k)
    two (Ok c) = same_next (g c) h k same
    two (Err leaves) = refl

module _ (P : Problem) (objective : Bool) (ws : List Weighted) where
  abbrev coefficient_of : ℕ → Checked Fraction
  coefficient_of var = and_then (add_coefficients var ws nothing) (less_objective P objective var)

  by_coefficients : (var : ℕ) (bx : List Range) (s : Fraction) → add_least_ends coefficient_of var bx s ≡ add_variables P objective ws var bx s
  by_coefficients var [] s = refl
  by_coefficients var (r ∷ bx) s =
      three (add_coefficients var ws nothing) (less_objective P objective var) (λ c. add_least c r s)
      (λ t. add_least_ends coefficient_of (suc var) bx t) (λ t. add_variables P objective ws (suc var) bx t) (λ t. by_coefficients (suc var) bx t)

  pub least_by_sums : (sums : List (Checked Fraction)) (bx : List Range) → length bx ≡ length sums → AreSums coefficient_of sums
      → add_least_ends (sum_of_var sums) 0 bx nothing ≡ add_variables P objective ws 0 bx nothing
  least_by_sums sums bx long are =
      same_ends (sum_of_var sums) coefficient_of 0 bx nothing (λ v below. are v (omega (arith, below, long))) ∙ by_coefficients 0 bx nothing
