use Rattle.qm_normal.proofs.ObjectiveWritten.{objective_means}
use Rattle.qm_normal.proofs.laws.the_objective_is_what_is_written.Goals as goal

pub returns : goal.returns
returns c = objective_means
