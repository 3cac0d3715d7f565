use Rattle.qm_parse.proofs.OneFault.{one_fault, text_without_fault}
use Rattle.qm_parse.proofs.laws.one_fault.Goals as goal

pub returns-clause-once : goal.returns-clause-once
returns-clause-once c = one_fault

pub returns-clause-no_text : goal.returns-clause-no_text
returns-clause-no_text c = text_without_fault
