use Rattle.std.proofs.Common.{◌≡◌, drop}
use Rattle.qm_trees.specs.Evaluation.{zero}
use Rattle.qm_trees.specs.Leaves.{add_terms, value_at}
use Rattle.qm_policy.specs.Sides.{end_by}
use Rattle.qm_policy.proofs.leaf.sum_at.Given as goal

abbrev pub invariant-loop-term : goal.invariant-loop-term
invariant-loop-term l =
    add_terms (value_at (end_by l.side) l.problem l.bx l.point) (drop l.term-index l.terms) l.sum ≡ add_terms (value_at (end_by l.side) l.problem l.bx l.point) l.terms zero
