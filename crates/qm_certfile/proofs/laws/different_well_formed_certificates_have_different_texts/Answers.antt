use Rattle.qm_certfile.proofs.Bounds.{certificate_bound}
use Rattle.qm_certfile.proofs.DifferentTexts.{certificate_told}
use Rattle.qm_certfile.proofs.laws.different_well_formed_certificates_have_different_texts.Goals as goal

pub returns : goal.returns
returns c = λ P c d formed other same. certificate_told P c d (certificate_bound c formed) (certificate_bound d other) same
