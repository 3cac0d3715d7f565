use Rattle.qm_small.proofs.SameProblem.{small_texts_state}
use Rattle.qm_small.proofs.laws.small_texts_are_read_the_same.Goals as goal

pub returns : goal.returns
returns c = small_texts_state
