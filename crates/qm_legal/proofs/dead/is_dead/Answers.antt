use Rattle.qm_trees.proofs.WholeValues.{row_sizes, row_vars_below}
use Rattle.qm_legal.proofs.dead.is_dead.Goals as goal

pub least-requires-clause-vars : goal.least-requires-clause-vars
least-requires-clause-vars c = row_vars_below c.args.game.now c.args.bx.now c.args.row.now c.requires.row c.requires.bx

pub least-requires-clause-size : goal.least-requires-clause-size
least-requires-clause-size c = row_sizes c.args.game.now c.args.bx.now c.args.row.now c.requires.row c.requires.bx
