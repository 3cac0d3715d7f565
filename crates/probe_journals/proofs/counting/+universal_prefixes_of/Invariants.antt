use Rattle.std.proofs.Common.{length}
use Rattle.probe_journals.proofs.counting.+universal_prefixes_of.Given as goal

abbrev pub decreases-universal_prefixes_of : goal.decreases-universal_prefixes_of
decreases-universal_prefixes_of l = length l.vars.now
