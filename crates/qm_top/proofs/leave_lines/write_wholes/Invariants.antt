use Rattle.std.proofs.Common.{◌≡◌, ◌++◌, map, drop}
use Rattle.std.specs.Fmt.{signed_decimal}
use Rattle.qm_certfile.specs.LineSteps.{spaced}
use Rattle.qm_top.proofs.leave_lines.write_wholes.Given as goal

abbrev pub invariant-loop-value : goal.invariant-loop-value
invariant-loop-value l = l.out ++ spaced (map signed_decimal (drop l.value-index l.values)) ≡ l.fn.out ++ spaced (map signed_decimal l.values)
