use Rattle.std.proofs.Common.{◌≡◌, ◌++◌, take}
use Rattle.std.specs.List.{filter}
use Rattle.qm_normal.specs.TableSteps.{kept_by}
use Rattle.qm_normal.proofs.order.add_names.Given as goal

abbrev pub invariant-loop-named : goal.invariant-loop-named
invariant-loop-named l = l.names ≡ l.initial.names ++ filter (λ named. kept_by l.roles l.whole named.name) (take l.named-index l.order)
