use Rattle.qm_certfile.proofs.DifferentTexts.{certificate_told}
use Rattle.qm_certfile.proofs.laws.different_certificates_have_different_texts.Goals as goal

pub returns : goal.returns
returns c = certificate_told
