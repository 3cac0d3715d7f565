use Rattle.qm_certread.proofs.PassingFits.{short_law}
use Rattle.qm_certread.proofs.PassingTexts.{no_fault_law}
use Rattle.qm_certread.proofs.laws.texts_without_fault_are_those_of_passing_certificates.Goals as goal

pub returns-clause-fitting : goal.returns-clause-fitting
returns-clause-fitting c = λ P text sound. no_fault_law P sound text

pub returns-clause-short : goal.returns-clause-short
returns-clause-short c = short_law
