use Rattle.std.proofs.Common.{◌≡◌, drop}
use Rattle.qm_trees.specs.Evaluation.{greatest_end_by, zero}
use Rattle.qm_trees.specs.Leaves.{add_terms, value_at}
use Rattle.qm_check.proofs.leaf.greatest_sum.Given as goal

abbrev pub invariant-loop-term : goal.invariant-loop-term
invariant-loop-term l =
    add_terms (value_at greatest_end_by l.leaf.problem.now l.leaf.bx.now l.leaf.point.now) (drop l.term-index l.terms) l.sum
    ≡ add_terms (value_at greatest_end_by l.leaf.problem.now l.leaf.bx.now l.leaf.point.now) l.terms zero
