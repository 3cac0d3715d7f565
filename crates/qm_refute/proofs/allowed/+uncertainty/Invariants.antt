use Rattle.std.proofs.Common.{◌-◌, ◌*◌, length}
use Rattle.qm_refute.proofs.allowed.+uncertainty.Given as goal

abbrev pub decreases-holds_when_completed : goal.decreases-holds_when_completed
decreases-holds_when_completed l = 2 * length l.here.rest.now

abbrev pub decreases-holds_when_picked : goal.decreases-holds_when_picked
decreases-holds_when_picked l = 2 * length l.here.rest.now - 1
