use Rattle.std.proofs.Common.{◌≡◌, ℕ, true, drop}
use Rattle.qm_frac.specs.Checked.{and_then, subtracted}
use Rattle.qm_math.specs.Fraction.{whole}
use Rattle.qm_model.specs.Linear.{coefficient}
use Rattle.qm_trees.specs.Evaluation.{less_objective}
use Rattle.qm_check.specs.Sums.{sum_of_var}
use Rattle.qm_check.proofs.TermSums.{taken_in}
use Rattle.qm_check.proofs.sums.less_objective.Given as goal

abbrev pub invariant-loop-term : goal.invariant-loop-term
invariant-loop-term l =
    (var : ℕ) → and_then (sum_of_var l.sums var) (taken_in (λ k c. subtracted c (whole k)) (coefficient (drop l.term-index l.term-items) var))
    ≡ and_then (sum_of_var l.fn.sums var) (less_objective l.problem true var)
