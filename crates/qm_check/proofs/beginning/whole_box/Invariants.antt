use Rattle.std.proofs.Common.{◌≡◌, take, map}
use Rattle.qm_model.specs.Boxes.{bounds_of}
use Rattle.qm_check.proofs.beginning.whole_box.Given as goal

abbrev pub invariant-loop-var : goal.invariant-loop-var
invariant-loop-var l = l.bx ≡ map bounds_of (take l.var-index l.problem.vars)
