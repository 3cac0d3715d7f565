use Rattle.std.proofs.Common.{◌≡◌, drop}
use Rattle.qm_trees.specs.CutEntries.{rows_on}
use Rattle.qm_trees.specs.Evaluation.{add_right_sides, zero}
use Rattle.qm_cuts.proofs.sums.add_right_sides.Given as goal

abbrev pub invariant-loop-entry : goal.invariant-loop-entry
invariant-loop-entry l =
    add_right_sides (rows_on l.problem l.earlier (drop l.entry-index l.entries)) l.sum
    ≡ add_right_sides (rows_on l.problem l.earlier l.entries) zero
