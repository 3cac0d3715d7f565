use Rattle.std.proofs.Common.{sym, ◌∙◌, pos}
use Rattle.std.proofs.lemmas.Result.{err_from_is_err_and}
use Rattle.qm_trees.specs.Entries.{weighted_rows}
use Rattle.qm_combo.proofs.Steps.{variables_leave}
use Rattle.qm_combo.proofs.sums.add_variables.Goals as goal

pub returns-in_err-combined : goal.returns-in_err-combined
returns-in_err-combined c =
    let p = err_from_is_err_and c.from_residual.result c.from_residual.ensures.1 in
    let ws = weighted_rows c.args.problem.now c.args.cuts.now c.args.entries.now in
    rw (p.1, p.2)
    (variables_leave c.args.problem.now c.args.objective ws c.args.bx.now c.loop-var.var (record { low = pos 0; high = pos 0 }) c.loop-var.sum _ _
    c.loop-var-test.true (sym c.combined_coefficient.ensures ∙ c.in_err-combined.was) c.loop-var.invariant)
