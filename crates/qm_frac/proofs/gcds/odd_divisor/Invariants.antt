use Rattle.std.proofs.Common.{◌≡◌, ◌+◌, ◌%◌}
use Rattle.qm_frac.specs.Gcd.{gcd_of}
use Rattle.qm_frac.proofs.gcds.odd_divisor.Given as goal

abbrev pub invariant-loop-x : goal.invariant-loop-x
invariant-loop-x l = record { left : l.x % 2 ≡ 1; right : l.y % 2 ≡ 1; same : gcd_of l.x l.y ≡ gcd_of l.fn.a l.fn.b }

abbrev pub decreases-loop-x : goal.decreases-loop-x
decreases-loop-x l = l.x + l.y
