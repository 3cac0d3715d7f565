use Rattle.std.proofs.Common.{◌≡◌, ℕ, ◌+◌, ◌-◌, length}
use Rattle.qm_normal.specs.TableSteps.{value_by}
use Rattle.qm_normal.proofs.latest.Latest.reach.Given as goal

abbrev pub invariant-loop-self : goal.invariant-loop-self
invariant-loop-self l = (other : ℕ) → value_by l.self other ≡ value_by l.initial.self other

abbrev pub decreases-loop-self : goal.decreases-loop-self
decreases-loop-self l = l.name + 1 - length l.self.values
