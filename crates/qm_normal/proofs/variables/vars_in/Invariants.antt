use Rattle.std.proofs.Common.{◌≡◌, map, take}
use Rattle.qm_normal.specs.TableSteps.{var_by}
use Rattle.qm_normal.proofs.variables.vars_in.Given as goal

abbrev pub invariant-loop-named : goal.invariant-loop-named
invariant-loop-named l = l.vars ≡ map (var_by l.ast l.roles l.ends) (take l.named-index l.order)
