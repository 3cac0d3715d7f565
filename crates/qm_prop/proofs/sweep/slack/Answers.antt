use Rattle.std.proofs.Common.{arith}
use Rattle.std.proofs.lemmas.Int.{to_z-of_z}
use mir.Syntax.{w128}
use mir.Val.{SFits}
use Rattle.qm_model.proofs.BoxLaws.{IsBox-length}
use Rattle.qm_model.proofs.Sizes.{reach_in_box_le, row_size_le}
use Rattle.qm_model.specs.Sizes.{reach_in_box}
use Rattle.qm_prop.proofs.sweep.slack.Goals as goal

pub least-least-requires-clause-vars : goal.least-least-requires-clause-vars
least-least-requires-clause-vars c = rw (IsBox-length c.args.vars.now c.args.bx.now c.requires.bx) c.requires.row.vars

pub least-least-requires-clause-size : goal.least-least-requires-clause-size
least-least-requires-clause-size c =
    row_size_le c.args.vars.now c.args.row.now (reach_in_box c.args.bx.now) c.requires.row (reach_in_box_le c.args.vars.now c.args.bx.now c.requires.bx)

pub below_right-requires-clause-size : goal.below_right-requires-clause-size
below_right-requires-clause-size c =
    let fits : SFits w128 c.least-least.result = record { sfits = c.least-least.type_inv } in
    let size = row_size_le c.args.vars.now c.args.row.now (reach_in_box c.args.bx.now) c.requires.row (reach_in_box_le c.args.vars.now c.args.bx.now c.requires.bx) in
    simp (to_z-of_z w128 c.least-least.result fits) (omega (arith, size, c.least-least.ensures.size))
