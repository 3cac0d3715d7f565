use Rattle.std.proofs.Common.{}
use Rattle.qm_simplex.proofs.ClosingEntries.{entries_with_last}
use Rattle.probe_certificates.proofs.combos.follows.Goals as goal

pub returns-then-is_positive : goal.returns-then-is_positive
returns-then-is_positive c = λ before.
    entries_with_last c.args.entries.now c.args.entry.now c.requires (c.are_before.ensures before) (c.is_positive.ensures c.if-is_positive.true)
