use Rattle.std.proofs.Common.{◌≡◌, ℕ, ◌+◌, ◌-◌, length}
use Rattle.qm_parse.specs.Marks.{is_marked}
use Rattle.qm_parse.proofs.marks.Marks.reach.Given as goal

abbrev pub invariant-loop-self : goal.invariant-loop-self
invariant-loop-self l = (other : ℕ) → is_marked l.self other ≡ is_marked l.initial.self other

abbrev pub decreases-loop-self : goal.decreases-loop-self
decreases-loop-self l = l.name + 1 - length l.self.flags
