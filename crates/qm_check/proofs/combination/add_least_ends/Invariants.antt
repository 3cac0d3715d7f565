use Rattle.std.proofs.Common.{◌≡◌, drop}
use Rattle.qm_trees.specs.Evaluation.{zero}
use Rattle.qm_check.specs.Sums.{add_least_ends, sum_of_var}
use Rattle.qm_check.proofs.combination.add_least_ends.Given as goal

abbrev pub invariant-loop-var : goal.invariant-loop-var
invariant-loop-var l =
    add_least_ends (sum_of_var l.sums) l.var (drop l.var l.bx) l.sum ≡ add_least_ends (sum_of_var l.sums) 0 l.bx zero
