use Rattle.qm_parse.proofs.KnownFaults.{below-name_fault}
use Rattle.qm_parse.proofs.laws.a_fault_is_known.Goals as goal

pub returns : goal.returns
returns c = below-name_fault
