use Rattle.std.proofs.Common.{drop}
use Rattle.qm_model.specs.Linear.{IsOrdered, IsOrderedFrom}
use Rattle.probe_words.proofs.cuts.are_ordered.Given as goal

abbrev pub invariant-loop-term : goal.invariant-loop-term
invariant-loop-term l = IsOrderedFrom l.least (drop l.term-index l.terms) → IsOrdered l.terms
