use Rattle.std.proofs.Common.{}
use Rattle.qm_model.proofs.BoxLaws.{IsBox-length}
use Rattle.qm_model.proofs.Sizes.{reach_in_box_le, row_size_le}
use Rattle.qm_model.specs.Sizes.{reach_in_box}
use Rattle.probe_games.proofs.rows.ends_word.Goals as goal

pub least-least-requires-clause-vars : goal.least-least-requires-clause-vars
least-least-requires-clause-vars c = rw (IsBox-length c.args.vars.now c.args.bx.now c.requires.bx) c.requires.row.vars

pub least-least-requires-clause-size : goal.least-least-requires-clause-size
least-least-requires-clause-size c =
    row_size_le c.args.vars.now c.args.row.now (reach_in_box c.args.bx.now) c.requires.row (reach_in_box_le c.args.vars.now c.args.bx.now c.requires.bx)

pub most-most-requires-clause-vars : goal.most-most-requires-clause-vars
most-most-requires-clause-vars c = rw (IsBox-length c.args.vars.now c.args.bx.now c.requires.bx) c.requires.row.vars

pub most-most-requires-clause-size : goal.most-most-requires-clause-size
most-most-requires-clause-size c =
    row_size_le c.args.vars.now c.args.row.now (reach_in_box c.args.bx.now) c.requires.row (reach_in_box_le c.args.vars.now c.args.bx.now c.requires.bx)
