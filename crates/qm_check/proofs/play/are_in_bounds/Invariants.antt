use Rattle.std.proofs.Common.{◌≡◌, drop, filter}
use Rattle.qm_model.specs.Legal.{begin_within}
use Rattle.qm_model.specs.Plays.{is_universal}
use Rattle.qm_check.proofs.play.are_in_bounds.Given as goal

abbrev pub invariant-loop-var : goal.invariant-loop-var
invariant-loop-var l = begin_within (filter is_universal (drop l.var-index l.vars)) l.left ≡ begin_within (filter is_universal l.vars) l.values
