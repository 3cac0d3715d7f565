use Rattle.std.proofs.Common.{◌≡◌, drop}
use Rattle.qm_trees.specs.Entries.{weighted_rows}
use Rattle.qm_trees.specs.Evaluation.{add_variables, zero}
use Rattle.qm_combo.proofs.sums.add_variables.Given as goal

abbrev pub invariant-loop-var : goal.invariant-loop-var
invariant-loop-var l =
    add_variables l.problem l.objective (weighted_rows l.problem l.cuts l.entries) l.var (drop l.var l.bx) l.sum
    ≡ add_variables l.problem l.objective (weighted_rows l.problem l.cuts l.entries) 0 l.bx zero
