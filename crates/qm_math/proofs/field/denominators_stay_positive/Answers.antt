use Rattle.qm_math.proofs.FractionLaws.{sum_of_den, product_of_den, negated_den}
use Rattle.qm_math.proofs.field.denominators_stay_positive.Goals as goal

pub returns-clause-sum : goal.returns-clause-sum
returns-clause-sum c = sum_of_den

pub returns-clause-product : goal.returns-clause-product
returns-clause-product c = product_of_den

pub returns-clause-negative : goal.returns-clause-negative
returns-clause-negative c = negated_den
