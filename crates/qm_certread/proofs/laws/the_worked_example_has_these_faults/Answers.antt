use Rattle.qm_certread.proofs.Worked.{worked}
use Rattle.qm_certread.proofs.laws.the_worked_example_has_these_faults.Goals as goal

pub returns : goal.returns
returns c = worked
