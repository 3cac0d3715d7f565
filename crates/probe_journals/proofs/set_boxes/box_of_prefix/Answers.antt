use Rattle.probe_journals.proofs.SetBoxes.{prefix_box-is_box}
use Rattle.probe_journals.proofs.set_boxes.box_of_prefix.Goals as goal

pub returns-clause-is_box : goal.returns-clause-is_box
returns-clause-is_box c =
    rw (c.in_ok-push_prefix_box.ensures, c.new-bx.ensures, c.as_slice.ensures, c.problem.ensures.value)
    (prefix_box-is_box c.args.game.now.wholes c.args.game.now.vars c.args.prefix.now c.requires)
