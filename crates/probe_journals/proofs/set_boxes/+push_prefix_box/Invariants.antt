use Rattle.std.proofs.Common.{length}
use Rattle.probe_journals.proofs.set_boxes.+push_prefix_box.Given as goal

abbrev pub decreases-push_prefix_box : goal.decreases-push_prefix_box
decreases-push_prefix_box l = length l.vars.now
