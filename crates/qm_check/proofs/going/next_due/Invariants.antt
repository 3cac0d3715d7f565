use Rattle.std.proofs.Common.{◌≡◌, length}
use Rattle.qm_check.specs.Walks.{IsWalk, tasks_of}
use Rattle.qm_check.proofs.going.next_due.Given as goal

abbrev pub invariant-loop-due : goal.invariant-loop-due
invariant-loop-due l = record {
  same : tasks_of l.fn.walk ≡ tasks_of l.walk;
  stays : IsWalk l._problem l.walk;
}

abbrev pub decreases-loop-due : goal.decreases-loop-due
decreases-loop-due l = length l.walk.due
