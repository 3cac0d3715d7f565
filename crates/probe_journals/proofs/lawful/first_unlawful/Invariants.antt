use Rattle.qm_journal.specs.Lawful.{IsLawful}
use Rattle.probe_journals.proofs.lawful.first_unlawful.Given as goal

abbrev pub invariant-loop-at : goal.invariant-loop-at
invariant-loop-at l = IsLawful l.game l.journal.entries
