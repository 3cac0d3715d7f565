use Rattle.qm_math.proofs.Totals.{total_of-append, product_of-total_of, total_of-sum_of, total_of-same, total_of-at_most}
use Rattle.qm_math.proofs.Pieces.{total_of-filter}
use Rattle.qm_math.proofs.adding.sums_of_fractions.Goals as goal

pub returns-clause-joined : goal.returns-clause-joined
returns-clause-joined c = total_of-append

pub returns-clause-multiple : goal.returns-clause-multiple
returns-clause-multiple c = product_of-total_of

pub returns-clause-sum : goal.returns-clause-sum
returns-clause-sum c = total_of-sum_of

pub returns-clause-same : goal.returns-clause-same
returns-clause-same c = total_of-same

pub returns-clause-at_most : goal.returns-clause-at_most
returns-clause-at_most c = total_of-at_most

pub returns-clause-left_out : goal.returns-clause-left_out
returns-clause-left_out c = total_of-filter
