use Rattle.std.proofs.Common.{◌≤◌, length}
use Rattle.qm_model.specs.Boxes.{IsBox}
use Rattle.probe_journals.proofs.alive.play_box.Given as goal

abbrev pub invariant-loop-at : goal.invariant-loop-at
invariant-loop-at l = IsBox l.game.vars l.bx × l.next ≤ length l.us
