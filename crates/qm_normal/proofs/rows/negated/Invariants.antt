use Rattle.std.proofs.Common.{◌≡◌, map, take}
use Rattle.qm_normal.specs.Rows.{negated_term}
use Rattle.qm_normal.proofs.rows.negated.Given as goal

abbrev pub invariant-loop-term : goal.invariant-loop-term
invariant-loop-term l = l.items.items ≡ map negated_term (take l.term-index l.row.terms)
