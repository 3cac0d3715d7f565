use Rattle.std.proofs.Common.{sym}
use Rattle.qm_parse.proofs.SurveySteps.{Adds-ordered, Adds-unordered}
use Rattle.qm_parse.proofs.survey.Survey.place.Goals as goal

pub returns-then-not-has : goal.returns-then-not-has
returns-then-not-has c =
    Adds-unordered c.args.order.now c.args.named c.earlier.result c.args.self.now c.mark.new.self c.in_ok-mark.ensures (sym c.if-not-has.ensures) c.earlier.ensures

pub returns-else-not-has : goal.returns-else-not-has
returns-else-not-has c =
    Adds-ordered c.args.order.now c.args.named c.args.self.now c.mark.new.self c.in_ok-mark.ensures (sym c.if-not-has.ensures)
