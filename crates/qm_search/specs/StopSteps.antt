-- Steps of the search: why a visit tells nothing.
use Rattle.std.specs.Prelude.{◌≡◌, length}
use Rattle.qm_journal.specs.Contents.{Contents}
use Rattle.qm_journal.specs.declared.journal.JournalFault.{JournalFault}
use Rattle.qm_journal.specs.declared.journal.JournalFault.TheVariants as journal_fault
use Rattle.qm_legal.specs.declared.fault.LegalFault.{LegalFault}
use Rattle.qm_legal.specs.declared.fault.LegalFault.TheVariants as legal_fault
use Rattle.qm_model.specs.declared.game.Problem.{Problem}
use Rattle.qm_simplex.specs.RightLeaves.{IsRightLeave}
use Rattle.qm_search.specs.declared.stop.Stop.{Stop}
use Rattle.qm_search.specs.declared.stop.Stop.TheVariants as stop
use Rattle.qm_search.specs.Entering.{IsEnterable}

abbrev pub of_journal : JournalFault → Stop
of_journal journal_fault.Spent = stop.Spent
of_journal journal_fault.Memory = stop.Memory

abbrev pub of_legality : LegalFault → Stop
of_legality legal_fault.Spent = stop.Spent
of_legality legal_fault.Memory = stop.Memory

-- the journal has as many entries as its limit
abbrev pub IsFull : Contents → Type 0
IsFull J = length J.entries ≡ J.limit

-- the journal is full; or the leaf run of this prefix leaves as told, and each shorter one may be entered; or memory is wanting
abbrev pub IsRightStop : Problem → Contents → Stop → Type 0
IsRightStop P J stop.Spent = IsFull J
IsRightStop P J (stop.Leave leave) = IsRightLeave P (IsEnterable P) leave.prefix leave.run
IsRightStop P J stop.Memory = Unit {0}

-- the same of a leaf, which needs no entry
abbrev pub IsLeafStop : Problem → Stop → Type 0
IsLeafStop P stop.Spent = ⊥
IsLeafStop P (stop.Leave leave) = IsRightLeave P (IsEnterable P) leave.prefix leave.run
IsLeafStop P stop.Memory = Unit {0}
