use Rattle.std.proofs.Common.{take}
use Rattle.qm_parse.specs.SurveySteps.{Adds}
use Rattle.qm_parse.proofs.survey.Survey.names.Given as goal

abbrev pub invariant-loop-named : goal.invariant-loop-named
invariant-loop-named l = Adds l.order (take l.named-index l.list) l.initial.self l.self
