use Rattle.qm_simplex.proofs.OneAnswer.{one_answer}
use Rattle.qm_simplex.proofs.run_laws.runs_have_one_answer.Goals as goal

pub returns : goal.returns
returns c = one_answer
