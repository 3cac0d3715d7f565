use Rattle.qm_math.proofs.Sums.{sum_of_each-append, *ℤ-sum_of_each, sum_of_each-sum, sum_of_each_exchange, sum_of_each-le}
use Rattle.qm_math.proofs.adding.sums_of_whole_numbers.Goals as goal

pub returns-clause-joined : goal.returns-clause-joined
returns-clause-joined c = sum_of_each-append

pub returns-clause-multiple : goal.returns-clause-multiple
returns-clause-multiple c = *ℤ-sum_of_each

pub returns-clause-sum : goal.returns-clause-sum
returns-clause-sum c = sum_of_each-sum

pub returns-clause-exchange : goal.returns-clause-exchange
returns-clause-exchange c = sum_of_each_exchange

pub returns-clause-at_most : goal.returns-clause-at_most
returns-clause-at_most c = sum_of_each-le
