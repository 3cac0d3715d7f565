use Rattle.std.proofs.Common.{length}
use Rattle.probe_journals.proofs.first_values.+begin_within.Given as goal

abbrev pub decreases-begin_within : goal.decreases-begin_within
decreases-begin_within l = length l.values.now
