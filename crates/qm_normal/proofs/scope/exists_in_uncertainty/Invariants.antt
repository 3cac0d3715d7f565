use Rattle.std.proofs.Common.{◌≡◌, not, drop}
use Rattle.qm_parse.specs.Checks.{first_such, row_uses}
use Rattle.qm_normal.specs.TableSteps.{universal_by}
use Rattle.qm_normal.proofs.scope.exists_in_uncertainty.Given as goal

abbrev pub invariant-loop-row : goal.invariant-loop-row
invariant-loop-row l =
    first_such (λ named. not (universal_by l.roles named.name)) (row_uses (drop l.row-index l.rows))
    ≡ first_such (λ named. not (universal_by l.roles named.name)) (row_uses l.rows)
