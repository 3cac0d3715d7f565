use Rattle.std.proofs.Common.{◌≡◌, ◌+◌, ◌≤◌, length}
use Rattle.qm_journal.specs.declared.entry.JKind.TheVariants.{Query}
use Rattle.qm_journal.specs.Positions.{IsParent, position_of}
use Rattle.qm_legal.proofs.named.prefix_length.Given as goal

abbrev pub invariant-loop-at : goal.invariant-loop-at
invariant-loop-at l = record {
  parent : IsParent Query l.entries l.at;
  sum : l.count + length (position_of l.entries l.at).prefix ≡ length (position_of l.entries l.number).prefix;
  few : l.count + l.at ≤ l.number;
}

abbrev pub decreases-loop-at : goal.decreases-loop-at
decreases-loop-at l = l.at
