use Rattle.qm_frac.proofs.CheckedLaws.{added-value, subtracted-value, multiplied-value, divided-value}
use Rattle.qm_frac.proofs.laws.checked_values_are_exact.Goals as goal

pub returns : goal.returns
returns c = record { sum = added-value; difference = subtracted-value; product = multiplied-value; quotient = divided-value }
