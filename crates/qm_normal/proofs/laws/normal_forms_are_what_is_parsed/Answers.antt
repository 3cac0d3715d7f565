use Rattle.qm_normal.proofs.ParsedTexts.{parsed_objective, parsed_problem}
use Rattle.qm_normal.proofs.laws.normal_forms_are_what_is_parsed.Goals as goal

pub returns : goal.returns
returns c = record { problem = parsed_problem; objective = parsed_objective }
