use Rattle.qm_simplex.proofs.GoodRuns.{run_good}
use Rattle.qm_simplex.proofs.run_laws.runs_keep_tableaus_good.Goals as goal

pub returns : goal.returns
returns c = run_good
