use Rattle.qm_small.proofs.SameProblem.{small_texts_state}
use Rattle.qm_small.proofs.laws.one_problem.Goals as goal

pub returns : goal.returns
returns c = λ text P Q one other. c.one_problem_a_text.ensures text P Q (small_texts_state text P one) (small_texts_state text Q other)
