use Rattle.qm_math.proofs.FractionLaws.{same_sym, same_trans, sum_of-same, product_of-same, negated-same, quotient_of-same}
use Rattle.qm_math.proofs.field.the_same_fractions_give_the_same.Goals as goal

pub returns-clause-symmetric : goal.returns-clause-symmetric
returns-clause-symmetric c = same_sym

pub returns-clause-transitive : goal.returns-clause-transitive
returns-clause-transitive c = same_trans

pub returns-clause-sum : goal.returns-clause-sum
returns-clause-sum c = sum_of-same

pub returns-clause-product : goal.returns-clause-product
returns-clause-product c = product_of-same

pub returns-clause-negative : goal.returns-clause-negative
returns-clause-negative c = negated-same

pub returns-clause-quotient : goal.returns-clause-quotient
returns-clause-quotient c = quotient_of-same
