use Rattle.qm_model.proofs.OneEnding.{one_ending}
use Rattle.qm_model.proofs.laws.a_problem_has_one_ending.Goals as goal

pub returns : goal.returns
returns c = one_ending
