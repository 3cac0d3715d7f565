use Rattle.std.proofs.Common.{arith}
use Rattle.qm_parse.specs.Checks.{term_uses}
use Rattle.qm_parse.proofs.SurveySteps.{Adds-more, Adds-nil}
use Rattle.qm_parse.proofs.survey.Survey.rows.Goals as goal

pub loop-row-init : goal.loop-row-init
loop-row-init c = Adds-nil c.args.order.now c.args.self.now

pub loop-row-preserved : goal.loop-row-preserved
loop-row-preserved c =
    Adds-more (λ row. term_uses row.terms) c.args.order.now c.args.rows.now c.loop-row.row-index c.row-item.result c.args.self.now c.loop-row.self c.terms.new.self
    (omega arith) c.row-item.is c.loop-row.invariant (rw c.as_slice.ensures at c.in_ok-terms.ensures)
