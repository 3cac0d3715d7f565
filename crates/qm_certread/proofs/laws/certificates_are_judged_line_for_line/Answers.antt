use Rattle.qm_certread.proofs.JudgedTexts.{certificate_law}
use Rattle.qm_certread.proofs.laws.certificates_are_judged_line_for_line.Goals as goal

pub returns : goal.returns
returns c = certificate_law
