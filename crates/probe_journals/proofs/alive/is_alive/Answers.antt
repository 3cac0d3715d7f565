-- The row's numbers are within 128 bits over the box.
use Rattle.qm_model.proofs.BoxLaws.{IsBox-length}
use Rattle.qm_model.proofs.Sizes.{reach_in_box_le, row_size_le}
use Rattle.qm_model.specs.Sizes.{reach_in_box}
use Rattle.probe_journals.proofs.alive.is_alive.Goals as goal

pub least-requires-clause-vars : goal.least-requires-clause-vars
least-requires-clause-vars c = rw (IsBox-length c.args.vars.now c.args.bx.now c.requires.bx) c.requires.row.vars

pub least-requires-clause-size : goal.least-requires-clause-size
least-requires-clause-size c =
    row_size_le c.args.vars.now c.args.row.now (reach_in_box c.args.bx.now) c.requires.row (reach_in_box_le c.args.vars.now c.args.bx.now c.requires.bx)
