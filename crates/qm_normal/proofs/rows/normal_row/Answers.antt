use Rattle.std.proofs.Common.{◌≡◌, Option, subst}
use Rattle.std.specs.Prelude.{IfOk}
use Rattle.qm_model.specs.declared.row.Row.{Row}
use Rattle.qm_normal.specs.Normal.{maximised}
use Rattle.qm_normal.proofs.RowsOfTotals.{normal_row-left, normal_row-summed}
use Rattle.qm_normal.proofs.rows.normal_row.Goals as goal

pub returns-in_default-clause-row : goal.returns-in_default-clause-row
unfolding maximised
returns-in_default-clause-row c =
    normal_row-left c.args.vars.now c.args.order.now c.args.terms.now c.args.right (rw c.in_default.is at c.in_ok-sums.ensures.sums)

pub returns-clause-row : goal.returns-clause-row
unfolding maximised
returns-clause-row c =
    subst (λ (row : Option Row). IfOk c.narrow_row.result (λ found. found ≡ row))
    (normal_row-summed c.args.vars.now c.args.order.now c.args.terms.now c.args.right c.in-Some.sums.items (rw c.in-Some.is at c.in_ok-sums.ensures.sums))
    (rw c.deref.ensures.value at c.narrow_row.ensures.row)
