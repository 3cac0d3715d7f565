use Rattle.qm_trees.proofs.EmptySound.{no_play}
use Rattle.qm_trees.proofs.empty_laws.right_empty_trees_leave_no_play.Goals as goal

pub returns : goal.returns
returns c = λ P bx tree us sound right play fits. no_play P bx tree us sound play fits right
