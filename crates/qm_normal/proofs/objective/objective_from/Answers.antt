use Rattle.std.proofs.Common.{◌≡◌, Option, subst}
use Rattle.std.specs.Prelude.{IfOk}
use Rattle.qm_normal.specs.Normal.{Objective, maximised}
use Rattle.qm_normal.proofs.RowsOfTotals.{objective-constant_left, objective-left, objective-summed}
use Rattle.qm_normal.proofs.objective.objective_from.Goals as goal

pub returns-in_default : goal.returns-in_default
returns-in_default c = objective-left c.args.vars.now c.args.order.now (maximised c.args.sense c.args.terms.now) (rw c.in_default.is at c.in_ok-sums.ensures.sums)

pub returns-in_default-total_of_constants : goal.returns-in_default-total_of_constants
returns-in_default-total_of_constants c = objective-constant_left c.args.vars.now c.args.order.now (maximised c.args.sense c.args.terms.now) c.in_default-total_of_constants.ensures

pub returns : goal.returns
returns c =
    subst (λ (objective : Option Objective). IfOk c.scaled_objective.result (λ found. found ≡ objective))
    (objective-summed c.args.vars.now c.args.order.now (maximised c.args.sense c.args.terms.now) c.in-Some.sums.items c.in-Some-total_of_constants.constant (rw c.in-Some.is at c.in_ok-sums.ensures.sums) c.in-Some-total_of_constants.ensures)
    (rw c.deref.ensures.value at c.scaled_objective.ensures)
