use Rattle.std.proofs.Common.{length}
use Rattle.probe_journals.proofs.counting.+prefixes_of.Given as goal

abbrev pub decreases-prefixes_of : goal.decreases-prefixes_of
decreases-prefixes_of l = length l.vars.now
