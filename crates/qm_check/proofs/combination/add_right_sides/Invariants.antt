use Rattle.std.proofs.Common.{◌≡◌, drop}
use Rattle.qm_trees.specs.Entries.{weighted_rows}
use Rattle.qm_trees.specs.Evaluation.{add_right_sides, zero}
use Rattle.qm_check.proofs.combination.add_right_sides.Given as goal

abbrev pub invariant-loop-entry : goal.invariant-loop-entry
invariant-loop-entry l =
    add_right_sides (weighted_rows l.problem l.cuts (drop l.entry-index l.entries)) l.sum
    ≡ add_right_sides (weighted_rows l.problem l.cuts l.entries) zero
