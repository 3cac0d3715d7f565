use Rattle.std.proofs.Common.{◌≡◌, filter}
use Rattle.qm_gen.specs.Generated.{variables}
use Rattle.qm_gen.specs.WritingSteps.{is_in}
use Rattle.qm_gen.proofs.lists.variables.Given as goal

abbrev pub invariant-loop-place : goal.invariant-loop-place
invariant-loop-place l = l.numbers ≡ filter (is_in l.group) (variables l.place)
