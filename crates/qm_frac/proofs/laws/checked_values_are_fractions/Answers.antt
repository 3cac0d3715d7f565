use Rattle.qm_frac.proofs.CheckedLaws.{IsFrac-added, IsFrac-subtracted, IsFrac-multiplied, IsFrac-divided}
use Rattle.qm_frac.proofs.laws.checked_values_are_fractions.Goals as goal

pub returns : goal.returns
returns c = record { sum = IsFrac-added; difference = IsFrac-subtracted; product = IsFrac-multiplied; quotient = IsFrac-divided }
