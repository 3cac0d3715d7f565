use Rattle.std.proofs.Common.{take}
use Rattle.qm_normal.specs.TableSteps.{Notes}
use Rattle.qm_normal.proofs.ends.Ends.note_all.Given as goal

abbrev pub invariant-loop-bound : goal.invariant-loop-bound
invariant-loop-bound l = Notes (take l.bound-index l.bounds) l.initial.self l.self
