use Rattle.qm_simplex.proofs.EndingRuns.{run_ends}
use Rattle.qm_simplex.proofs.run_laws.runs_end.Goals as goal

pub returns : goal.returns
returns c = run_ends
