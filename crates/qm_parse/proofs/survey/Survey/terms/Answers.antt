use Rattle.std.proofs.Common.{arith}
use Rattle.qm_parse.specs.Checks.{term_use}
use Rattle.qm_parse.proofs.SurveySteps.{Adds-more, Adds-nil}
use Rattle.qm_parse.proofs.survey.Survey.terms.Goals as goal

pub loop-term-init : goal.loop-term-init
loop-term-init c = Adds-nil c.args.order.now c.args.self.now

pub loop-term-preserved : goal.loop-term-preserved
loop-term-preserved c =
    Adds-more term_use c.args.order.now c.args.terms.now c.loop-term.term-index c.term-item.result c.args.self.now c.loop-term.self c.term.new.self
    (omega arith) c.term-item.is c.loop-term.invariant c.in_ok-term.ensures
