use Rattle.std.proofs.Common.{take}
use Rattle.qm_parse.specs.Checks.{row_uses}
use Rattle.qm_parse.specs.SurveySteps.{Adds}
use Rattle.qm_parse.proofs.survey.Survey.rows.Given as goal

abbrev pub invariant-loop-row : goal.invariant-loop-row
invariant-loop-row l = Adds l.order (row_uses (take l.row-index l.rows)) l.initial.self l.self
