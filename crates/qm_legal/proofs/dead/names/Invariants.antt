use Rattle.std.proofs.Common.{◌-◌}
use Rattle.qm_legal.proofs.OtherRows.{StandsBetween}
use Rattle.qm_legal.proofs.dead.names.Given as goal

abbrev pub invariant-loop-low : goal.invariant-loop-low
invariant-loop-low l = StandsBetween l.terms l.var l.low l.high

abbrev pub decreases-loop-low : goal.decreases-loop-low
decreases-loop-low l = l.high - l.low
