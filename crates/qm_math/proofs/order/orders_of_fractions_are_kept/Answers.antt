use Rattle.qm_math.proofs.Compare.{at_most_trans}
use Rattle.qm_math.proofs.FractionOrder.{at_most-same, not_at_most_below, sum_of-at_most, negated-at_most, product_of-at_most, product_of-at_most_turned}
use Rattle.qm_math.proofs.order.orders_of_fractions_are_kept.Goals as goal

pub returns-clause-transitive : goal.returns-clause-transitive
returns-clause-transitive c = at_most_trans

pub returns-clause-same : goal.returns-clause-same
returns-clause-same c = at_most-same

pub returns-clause-not_both : goal.returns-clause-not_both
returns-clause-not_both c = not_at_most_below

pub returns-clause-sum : goal.returns-clause-sum
returns-clause-sum c = sum_of-at_most

pub returns-clause-negative : goal.returns-clause-negative
returns-clause-negative c = negated-at_most

pub returns-clause-product : goal.returns-clause-product
returns-clause-product c = product_of-at_most

pub returns-clause-turned : goal.returns-clause-turned
returns-clause-turned c = product_of-at_most_turned
