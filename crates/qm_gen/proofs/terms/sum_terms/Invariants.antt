use Rattle.std.proofs.Common.{◌≡◌, take}
use Rattle.qm_gen.specs.Generated.{sum_terms}
use Rattle.qm_gen.proofs.terms.sum_terms.Given as goal

abbrev pub invariant-loop-variable : goal.invariant-loop-variable
invariant-loop-variable l = l.terms ≡ sum_terms (take l.variable-index l.variables)
