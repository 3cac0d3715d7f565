use Rattle.std.proofs.Common.{◌∙◌, ◌+◌, ap, arith, drop}
use Rattle.qm_frac.specs.Checked.{and_then}
use Rattle.qm_trees.specs.Entries.{weighted_rows}
use Rattle.qm_trees.specs.Evaluation.{add_coefficients}
use Rattle.qm_check.specs.Sums.{sum_of_var}
use Rattle.qm_check.proofs.TermSums.{row_taken}
use Rattle.qm_check.proofs.sums.add_rows.Goals as goal

pub loop-entry-preserved : goal.loop-entry-preserved
loop-entry-preserved c var below =
    ap (λ x. and_then x (add_coefficients var (weighted_rows c.args.problem.now c.args.cuts.now (drop (c.loop-entry.entry-index + 1) c.args.entries.now)))) (c.add_row.ensures var below)
    ∙ row_taken c.args.problem.now c.args.cuts.now c.args.entries.now c.loop-entry.entry-index c.entry-item.result c.row_of.result.now var (sum_of_var c.loop-entry.sums var)
    c.loop-entry-test.true c.entry-item.is c.row_of.ensures
    ∙ c.loop-entry.invariant var (omega (arith, below, c.add_row.auto.sums))
