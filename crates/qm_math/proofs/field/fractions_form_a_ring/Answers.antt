use Rattle.qm_math.proofs.FractionLaws.{sum_of_comm, sum_of_assoc, sum_of-zero, sum_of-negated, product_of_comm, product_of_assoc, product_of-one, product_of-sum_of}
use Rattle.qm_math.proofs.field.fractions_form_a_ring.Goals as goal

pub returns-clause-sum_commutes : goal.returns-clause-sum_commutes
returns-clause-sum_commutes c = sum_of_comm

pub returns-clause-sum_associates : goal.returns-clause-sum_associates
returns-clause-sum_associates c = sum_of_assoc

pub returns-clause-sum_with_zero : goal.returns-clause-sum_with_zero
returns-clause-sum_with_zero c = sum_of-zero

pub returns-clause-sum_with_negative : goal.returns-clause-sum_with_negative
returns-clause-sum_with_negative c = sum_of-negated

pub returns-clause-product_commutes : goal.returns-clause-product_commutes
returns-clause-product_commutes c = product_of_comm

pub returns-clause-product_associates : goal.returns-clause-product_associates
returns-clause-product_associates c = product_of_assoc

pub returns-clause-product_with_one : goal.returns-clause-product_with_one
returns-clause-product_with_one c = product_of-one

pub returns-clause-product_of_a_sum : goal.returns-clause-product_of_a_sum
returns-clause-product_of_a_sum c = product_of-sum_of
