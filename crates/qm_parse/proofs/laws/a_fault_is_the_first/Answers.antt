use Rattle.qm_parse.proofs.FirstFaults.{first_fault}
use Rattle.qm_parse.proofs.WrittenTexts.{text_read}
use Rattle.qm_parse.proofs.laws.a_fault_is_the_first.Goals as goal

pub returns : goal.returns
returns c = first_fault (λ names symbols ast end colons is. text_read names symbols end ast is)
