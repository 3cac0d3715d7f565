use Rattle.qm_math.proofs.Distinct.{length-le_distinct_below}
use Rattle.qm_math.proofs.counting.distinct_numbers_below.Goals as goal

pub returns : goal.returns
returns c = length-le_distinct_below
