use Rattle.qm_simplex.proofs.RightEnds.{right_end}
use Rattle.qm_simplex.proofs.end_laws.ends_of_runs_are_right.Goals as goal

pub returns : goal.returns
returns c = right_end
