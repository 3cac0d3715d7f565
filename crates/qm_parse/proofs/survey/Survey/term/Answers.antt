use Rattle.qm_parse.proofs.SurveySteps.{Adds-nil, term_use-None, term_use-Some}
use Rattle.qm_parse.proofs.survey.Survey.term.Goals as goal

pub returns-in_ok-place : goal.returns-in_ok-place
returns-in_ok-place c = rw (term_use-Some c.args.term.now c.in-Some.name c.in-Some.is) c.in_ok-place.ensures

pub returns-in_default : goal.returns-in_default
returns-in_default c = rw (term_use-None c.args.term.now c.in_default.is) (Adds-nil c.args.order.now c.args.self.now)
