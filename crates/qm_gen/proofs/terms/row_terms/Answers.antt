use Rattle.std.proofs.Common.{◌≤◌, ap, length, sym, arith}
use Rattle.std.proofs.lemmas.List.Elements.{All-same}
use Rattle.qm_gen.specs.declared.term.Term.{Term}
use Rattle.qm_gen.specs.Draws.{draw}
use Rattle.qm_gen.specs.Generated.{row_terms}
use Rattle.qm_gen.proofs.Drawn.{row_few, row_small, row_step, state_behind-zero}
use Rattle.qm_gen.proofs.terms.row_terms.Goals as goal

pub loop-place-init : goal.loop-place-init
loop-place-init c = record { terms_are = c.new-terms.ensures; state_is = sym (state_behind-zero c.args.draws.now.state) }

pub loop-place-preserved : goal.loop-place-preserved
loop-place-preserved c =
    row_step c.args.draws.now.state c.loop-place.place c.loop-place.terms c.push_drawn.new.terms c.loop-place.draws.state c.draw-drawn.new.self.state c.draw-drawn.result c.loop-place.invariant c.draw-drawn.ensures.state c.draw-drawn.ensures.drawn c.in_ok-push_drawn.ensures

pub returns-clause-few : goal.returns-clause-few
returns-clause-few c = omega (arith, ap (length {A = Term}) c.loop-place.invariant.terms_are, row_few (draw c.args.draws.now.state) c.loop-place.place)

pub returns-clause-small : goal.returns-clause-small
returns-clause-small c =
    All-same (λ (term : Term). term.factor ≤ 5) c.loop-place.terms (row_terms (draw c.args.draws.now.state) c.loop-place.place) c.loop-place.invariant.terms_are (row_small (draw c.args.draws.now.state) c.loop-place.place)
