use Rattle.qm_normal.proofs.TextWritten.{problem_means}
use Rattle.qm_normal.proofs.laws.the_problem_is_what_is_written.Goals as goal

pub returns : goal.returns
returns c = problem_means
