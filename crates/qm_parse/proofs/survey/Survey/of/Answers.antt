use Rattle.qm_parse.proofs.SurveySteps.{IsSurveyOf-made}
use Rattle.qm_parse.proofs.survey.Survey.of.Goals as goal

pub returns : goal.returns
returns c = IsSurveyOf-made c.args.ast.now c.args.order.now c.new.result c.all.new.self c.requires c.new.ensures c.in_ok-all.ensures
