use Rattle.std.proofs.Common.{◌≡◌, IsTrue, unsigned_abs, ◌-ℤ◌, ◌+ℤ◌, ◌≤ℤ◌, ◌<ℤ◌, pos}
use Rattle.qm_model.specs.Ranges.{range_at}
use Rattle.qm_journal.specs.Lawful.{has_rows}
use Rattle.qm_legal.proofs.guess.first_alive.Given as goal

abbrev pub invariant-loop-covered : goal.invariant-loop-covered
invariant-loop-covered l = record {
  same : l.bx ≡ l.fn.bx;
  covered : l.covered ≡ range_at l.fn.bx l.here.depth;
  from : l.covered.low ≤ℤ l.next;
  rows : l.covered.low <ℤ l.next → IsTrue (has_rows l.here.game.now.urows);
}

abbrev pub decreases-loop-covered : goal.decreases-loop-covered
decreases-loop-covered l = unsigned_abs ((l.covered.high +ℤ pos 1) -ℤ l.next)
