use Rattle.std.proofs.Common.{◌≡◌, ℕ, ◌∷◌, [], drop}
use Rattle.qm_frac.specs.Checked.{and_then}
use Rattle.qm_model.specs.Linear.{coefficient}
use Rattle.qm_trees.specs.Entries.{with_row}
use Rattle.qm_trees.specs.Evaluation.{add_coefficients}
use Rattle.qm_check.specs.Sums.{sum_of_var}
use Rattle.qm_check.proofs.TermSums.{product_added, taken_in}
use Rattle.qm_check.proofs.sums.add_row.Given as goal

abbrev pub invariant-loop-term : goal.invariant-loop-term
invariant-loop-term l =
    (var : ℕ) → and_then (sum_of_var l.sums var) (taken_in (product_added l.by) (coefficient (drop l.term-index l.term-items) var))
    ≡ and_then (sum_of_var l.fn.sums var) (add_coefficients var (with_row l.by l.row ∷ []))
