use Rattle.probe_journals.proofs.SetBoxes.{no_variable}
use Rattle.probe_journals.proofs.set_boxes.+push_prefix_box.Goals as goal

pub returns-in-None : goal.returns-in-None
returns-in-None t c = no_variable c.args.vars.now c.args.values.now c.args.bx.now c.in-None.ensures.cases
