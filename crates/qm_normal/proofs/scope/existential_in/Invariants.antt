use Rattle.std.proofs.Common.{◌≡◌, not, drop}
use Rattle.qm_parse.specs.Checks.{first_such, term_uses}
use Rattle.qm_normal.specs.TableSteps.{universal_by}
use Rattle.qm_normal.proofs.scope.existential_in.Given as goal

abbrev pub invariant-loop-term : goal.invariant-loop-term
invariant-loop-term l =
    first_such (λ named. not (universal_by l.roles named.name)) (term_uses (drop l.term-index l.terms))
    ≡ first_such (λ named. not (universal_by l.roles named.name)) (term_uses l.terms)
