use Rattle.qm_math.proofs.FractionLaws.{sum_of-whole, product_of-whole}
use Rattle.qm_math.proofs.FractionOrder.{whole-at_most, whole-below}
use Rattle.qm_math.proofs.field.whole_numbers_are_fractions.Goals as goal

pub returns-clause-sum : goal.returns-clause-sum
returns-clause-sum c = sum_of-whole

pub returns-clause-product : goal.returns-clause-product
returns-clause-product c = product_of-whole

pub returns-clause-at_most : goal.returns-clause-at_most
returns-clause-at_most c = whole-at_most

pub returns-clause-below : goal.returns-clause-below
returns-clause-below c = whole-below
