use Rattle.qm_math.proofs.Over.{total_of-over, dot_product-over, over-at_most, common_nums-same, common_den_pos}
use Rattle.qm_math.proofs.adding.sums_over_one_denominator.Goals as goal

pub returns-clause-sum : goal.returns-clause-sum
returns-clause-sum c = total_of-over

pub returns-clause-at_most : goal.returns-clause-at_most
returns-clause-at_most c = over-at_most

pub returns-clause-common : goal.returns-clause-common
returns-clause-common c = common_nums-same

pub returns-clause-positive : goal.returns-clause-positive
returns-clause-positive c = common_den_pos

pub returns-clause-row : goal.returns-clause-row
returns-clause-row c = dot_product-over
