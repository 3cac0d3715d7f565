use Rattle.std.proofs.Common.{take}
use Rattle.qm_parse.specs.Checks.{term_uses}
use Rattle.qm_parse.specs.SurveySteps.{Adds}
use Rattle.qm_parse.proofs.survey.Survey.terms.Given as goal

abbrev pub invariant-loop-term : goal.invariant-loop-term
invariant-loop-term l = Adds l.order (term_uses (take l.term-index l.terms)) l.initial.self l.self
