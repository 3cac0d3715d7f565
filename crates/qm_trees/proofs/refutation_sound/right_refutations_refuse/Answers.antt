use Rattle.qm_trees.proofs.RefutationsRefuse.{right_refuses}
use Rattle.qm_trees.proofs.refutation_sound.right_refutations_refuse.Goals as goal

pub returns : goal.returns
returns c = right_refuses
