use Rattle.std.proofs.Common.{arith}
use Rattle.qm_parse.proofs.SurveySteps.{Adds-more_names, Adds-nil}
use Rattle.qm_parse.proofs.survey.Survey.names.Goals as goal

pub loop-named-init : goal.loop-named-init
loop-named-init c = Adds-nil c.args.order.now c.args.self.now

pub loop-named-preserved : goal.loop-named-preserved
loop-named-preserved c =
    Adds-more_names c.args.order.now c.args.list.now c.loop-named.named-index _ c.args.self.now c.loop-named.self c.place.new.self
    (omega arith) c.loop-named.invariant c.in_ok-place.ensures
