use Rattle.qm_certread.proofs.FineTexts.{form_law}
use Rattle.qm_certread.proofs.laws.texts_in_form_are_those_of_certificates_that_fit.Goals as goal

pub returns : goal.returns
returns c = form_law
