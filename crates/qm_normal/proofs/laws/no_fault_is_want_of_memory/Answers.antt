use Rattle.qm_normal.proofs.NoFaultOfMemory.{form_told}
use Rattle.qm_normal.proofs.laws.no_fault_is_want_of_memory.Goals as goal

pub returns : goal.returns
returns c = form_told
