use Rattle.std.proofs.Common.{◌≤◌, ◌-◌, ◌^◌, drop, length}
use Rattle.std.specs.Prelude.{SomeIff}
use Rattle.qm_normal.specs.Rows.{common_denominator}
use Rattle.qm_normal.proofs.scaling.denominator_of_sums.Given as goal

abbrev pub invariant-loop-done : goal.invariant-loop-done
invariant-loop-done l =
    SomeIff l.common (common_denominator (drop (length l.sums - l.done) l.sums) ≤ 2 ^ 126) (common_denominator (drop (length l.sums - l.done) l.sums))
