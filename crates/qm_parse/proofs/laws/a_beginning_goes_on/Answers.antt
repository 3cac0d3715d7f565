use Rattle.qm_parse.proofs.FirstFaults.{accepted_goes_on}
use Rattle.qm_parse.proofs.WrittenTexts.{text_read}
use Rattle.qm_parse.proofs.laws.a_beginning_goes_on.Goals as goal

pub returns : goal.returns
returns c = accepted_goes_on (λ names symbols ast end colons is. text_read names symbols end ast is)
