use Rattle.qm_text.proofs.DecimalValues.{zeros_stay}
use Rattle.qm_text.proofs.laws.zeros_are_zero.Goals as goal

pub returns : goal.returns
returns c = zeros_stay
