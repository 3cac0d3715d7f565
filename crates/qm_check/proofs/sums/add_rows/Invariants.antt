use Rattle.std.proofs.Common.{◌≡◌, ℕ, ◌<◌, drop, length}
use Rattle.qm_frac.specs.Checked.{and_then}
use Rattle.qm_trees.specs.Entries.{weighted_rows}
use Rattle.qm_trees.specs.Evaluation.{add_coefficients}
use Rattle.qm_check.specs.Sums.{sum_of_var}
use Rattle.qm_check.proofs.sums.add_rows.Given as goal

abbrev pub invariant-loop-entry : goal.invariant-loop-entry
invariant-loop-entry l =
    (var : ℕ) → var < length l.sums → and_then (sum_of_var l.sums var) (add_coefficients var (weighted_rows l.problem l.cuts (drop l.entry-index l.entries)))
    ≡ and_then (sum_of_var l.fn.sums var) (add_coefficients var (weighted_rows l.problem l.cuts l.entries))
