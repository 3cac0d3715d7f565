use Rattle.std.proofs.Common.{sym}
use Rattle.qm_gen.proofs.Drawn.{objective_step, state_behind-zero}
use Rattle.qm_gen.proofs.terms.objective_terms.Goals as goal

pub loop-place-init : goal.loop-place-init
loop-place-init c = record { terms_are = c.new-terms.ensures; state_is = sym (state_behind-zero c.args.draws.now.state) }

pub loop-place-preserved : goal.loop-place-preserved
loop-place-preserved c =
    objective_step c.args.draws.now.state c.loop-place.place c.loop-place.terms c.push.new.self c.loop-place.draws.state c.draw.new.self.state c.draw.result c.loop-place.invariant c.draw.ensures.state c.draw.ensures.drawn c.in_ok-push.ensures.ok
