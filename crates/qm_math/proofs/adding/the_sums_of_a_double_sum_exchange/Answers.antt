use Rattle.qm_math.proofs.Totals.{total_of_exchange}
use Rattle.qm_math.proofs.adding.the_sums_of_a_double_sum_exchange.Goals as goal

pub returns : goal.returns
returns c = total_of_exchange
