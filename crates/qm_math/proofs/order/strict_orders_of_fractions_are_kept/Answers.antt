use Rattle.qm_math.proofs.FractionOrder.{below_trans, sum_of-below, negated-below, product_of-below}
use Rattle.qm_math.proofs.order.strict_orders_of_fractions_are_kept.Goals as goal

pub returns-clause-transitive : goal.returns-clause-transitive
returns-clause-transitive c = below_trans

pub returns-clause-sum : goal.returns-clause-sum
returns-clause-sum c = sum_of-below

pub returns-clause-negative : goal.returns-clause-negative
returns-clause-negative c = negated-below

pub returns-clause-product : goal.returns-clause-product
returns-clause-product c = product_of-below
