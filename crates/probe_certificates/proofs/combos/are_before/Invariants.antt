use Rattle.std.proofs.Common.{take}
use Rattle.std.specs.Prelude.{All}
use Rattle.qm_trees.specs.Entries.{IsBefore}
use Rattle.probe_certificates.proofs.combos.are_before.Given as goal

abbrev pub invariant-loop-entry : goal.invariant-loop-entry
invariant-loop-entry l = All (λ e. IsBefore e.row l.row) (take l.entry-index l.entries)
