use Rattle.std.proofs.Common.{arith}
use Rattle.qm_normal.proofs.LastValues.{Notes-more, Notes-nil}
use Rattle.qm_normal.proofs.ends.Ends.note_all.Goals as goal

pub loop-bound-init : goal.loop-bound-init
loop-bound-init c = Notes-nil c.args.self.now

pub loop-bound-preserved : goal.loop-bound-preserved
loop-bound-preserved c =
    Notes-more c.args.bounds.now c.loop-bound.bound-index c.bound-item.result c.args.self.now c.loop-bound.self c.note.new.self
    (omega arith) c.bound-item.is c.loop-bound.invariant c.in_ok-note.ensures
