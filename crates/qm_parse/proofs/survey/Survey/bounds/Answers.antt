use Rattle.std.proofs.Common.{arith}
use Rattle.qm_parse.proofs.SurveySteps.{Adds-more_bounds, Adds-nil}
use Rattle.qm_parse.proofs.survey.Survey.bounds.Goals as goal

pub loop-bound-init : goal.loop-bound-init
loop-bound-init c = Adds-nil c.args.order.now c.args.self.now

pub loop-bound-preserved : goal.loop-bound-preserved
loop-bound-preserved c =
    Adds-more_bounds c.args.order.now c.args.bounds.now c.loop-bound.bound-index c.bound-item.result c.args.self.now c.loop-bound.self c.place.new.self
    (omega arith) c.bound-item.is c.loop-bound.invariant c.in_ok-place.ensures
