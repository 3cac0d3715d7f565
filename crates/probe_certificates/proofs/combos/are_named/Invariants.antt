use Rattle.std.proofs.Common.{take}
use Rattle.qm_trees.specs.RefuteRight.{AreNamed}
use Rattle.probe_certificates.proofs.combos.are_named.Given as goal

abbrev pub invariant-loop-entry : goal.invariant-loop-entry
invariant-loop-entry l = AreNamed l.game l.cuts (take l.entry-index l.entries)
