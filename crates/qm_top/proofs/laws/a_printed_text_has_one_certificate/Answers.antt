use Rattle.qm_top.proofs.OneCertificate.{one_claimed, one_passing}
use Rattle.qm_top.proofs.laws.a_printed_text_has_one_certificate.Goals as goal

pub returns : goal.returns
returns c = record { passing = one_passing; claimed = one_claimed }
