use Rattle.std.proofs.Common.{length, ap, subst, arith}
use Rattle.qm_model.specs.declared.row.Term.{Term}
use Rattle.qm_model.specs.Linear.{IsOrderedFrom}
use Rattle.qm_normal.proofs.NegatedTerms.{items_ordered}
use Rattle.qm_normal.proofs.rows.negated.Goals as goal

pub new-requires : goal.new-requires
new-requires c =
    items_ordered c.args.row.now.terms c.loop-term.term-index c.loop-term.items.items (omega (arith, ap (length {A = Term}) c.as_slice-term-items.ensures.items)) c.loop-term.invariant
    (subst (IsOrderedFrom 0) c.as_slice-term-items.ensures.items c.as_slice-term-items.ensures.ordered)
