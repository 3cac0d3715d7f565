use Rattle.std.proofs.Common.{take}
use Rattle.qm_parse.specs.Checks.{bound_uses}
use Rattle.qm_parse.specs.SurveySteps.{Adds}
use Rattle.qm_parse.proofs.survey.Survey.bounds.Given as goal

abbrev pub invariant-loop-bound : goal.invariant-loop-bound
invariant-loop-bound l = Adds l.order (bound_uses (take l.bound-index l.bounds)) l.initial.self l.self
