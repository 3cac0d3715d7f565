use Rattle.std.proofs.Common.{◌*◌, ◌-◌, length}
use Rattle.qm_legal.proofs.guess.+guess.Given as goal

abbrev pub decreases-guess : goal.decreases-guess
decreases-guess l = 2 * length l.here.rest.now

abbrev pub decreases-guess_value : goal.decreases-guess_value
decreases-guess_value l = 2 * length l.here.rest.now - 1
