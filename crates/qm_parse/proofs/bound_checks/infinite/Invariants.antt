use Rattle.std.proofs.Common.{◌≡◌, true, drop}
use Rattle.std.specs.Prelude.{filter}
use Rattle.qm_parse.specs.Checks.{bound_uses, first_such, is_infinite}
use Rattle.qm_parse.proofs.bound_checks.infinite.Given as goal

abbrev pub invariant-loop-bound : goal.invariant-loop-bound
invariant-loop-bound l =
    first_such (λ named. true) (bound_uses (filter is_infinite (drop l.bound-index l.bounds)))
    ≡ first_such (λ named. true) (bound_uses (filter is_infinite l.bounds))
