use Rattle.std.proofs.Common.{◌∙◌, arith}
use Rattle.qm_trees.specs.Entries.{weighted_rows}
use Rattle.qm_check.proofs.LeastEnds.{least_by_sums}
use Rattle.qm_check.proofs.combination.least_form.Goals as goal

pub returns : goal.returns
returns c =
    c.add_least_ends.ensures
    ∙ least_by_sums c.args.problem.now c.args.combo.now.objective (weighted_rows c.args.problem.now c.args.cuts.now c.args.combo.now.entries) c.combine.new.sums c.args.bx.now (omega (arith, c.requires.bx, c.requires.sums, c.combine.auto.sums)) c.combine.ensures
