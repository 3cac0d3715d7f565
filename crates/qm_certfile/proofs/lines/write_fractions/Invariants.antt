use Rattle.std.proofs.Common.{◌≡◌, ◌++◌, map, drop}
use Rattle.qm_text.specs.Numbers.{number_word}
use Rattle.qm_certfile.specs.LineSteps.{spaced}
use Rattle.qm_certfile.proofs.lines.write_fractions.Given as goal

abbrev pub invariant-loop-value : goal.invariant-loop-value
invariant-loop-value l = l.out ++ spaced (map number_word (drop l.value-index l.values)) ≡ l.fn.out ++ spaced (map number_word l.values)
