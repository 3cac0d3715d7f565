use Rattle.qm_gen.specs.Generated.{objective_terms}
use Rattle.qm_gen.proofs.Drawn.{Drew}
use Rattle.qm_gen.proofs.terms.objective_terms.Given as goal

abbrev pub invariant-loop-place : goal.invariant-loop-place
invariant-loop-place l = Drew objective_terms l.fn.draws.state l.place l.terms l.draws.state
