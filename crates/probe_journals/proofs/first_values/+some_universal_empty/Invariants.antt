use Rattle.std.proofs.Common.{length}
use Rattle.probe_journals.proofs.first_values.+some_universal_empty.Given as goal

abbrev pub decreases-some_universal_empty : goal.decreases-some_universal_empty
decreases-some_universal_empty l = length l.vars.now
