use Rattle.std.proofs.Common.{◌≡◌, ◌<◌, ℕ, [], get_or, length}
use Rattle.qm_tableau.specs.UpdateSteps.{IsUpdated}
use Rattle.qm_tableau.proofs.wholes.write_wholes.Given as goal

abbrev pub invariant-loop-i : goal.invariant-loop-i
invariant-loop-i l = record {
  updated : (j : ℕ) → j < l.i → IsUpdated l.col l.leaving (get_or l.numbers.rows j []) (get_or l.out.rows j []);
  count : length l.out.rows ≡ length l.fn.out.rows;
  width : l.out.width ≡ l.fn.out.width;
}
