use Rattle.qm_math.proofs.Counts.{length-le_count_within}
use Rattle.qm_math.proofs.counting.distinct_lists_within.Goals as goal

pub returns : goal.returns
returns c = length-le_count_within
