use Rattle.qm_parse.proofs.NameLaws.{IsFirstOffence-from_fault, fault-from_IsFirstOffence}
use Rattle.qm_parse.proofs.laws.fault_is_the_first_offence.Goals as goal

pub returns : goal.returns
returns c = λ ast fault. (IsFirstOffence-from_fault ast fault, fault-from_IsFirstOffence ast fault)
