use Rattle.std.proofs.Common.{◌+◌, ◌*◌, length}
use Rattle.qm_journal.specs.Lawful.{IsLawful}
use Rattle.probe_journals.proofs.plays.+visits.Given as goal

abbrev pub decreases-visit : goal.decreases-visit
decreases-visit l = 3 * length l.rest.now

abbrev pub decreases-visit_values : goal.decreases-visit_values
decreases-visit_values l = 3 * length l.later.now + 2

abbrev pub decreases-visit_value : goal.decreases-visit_value
decreases-visit_value l = 3 * length l.later.now + 1

abbrev pub invariant-visit_values-loop-value : goal.invariant-visit_values-loop-value
invariant-visit_values-loop-value l = IsLawful l.game l.journal.entries
