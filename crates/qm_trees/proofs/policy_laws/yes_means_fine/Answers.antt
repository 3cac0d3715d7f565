use Rattle.qm_trees.proofs.Lines.{answer_of_fine, fine_of_answer}
use Rattle.qm_trees.proofs.policy_laws.yes_means_fine.Goals as goal

pub returns : goal.returns
returns c = λ verdict. (fine_of_answer verdict, answer_of_fine verdict)
