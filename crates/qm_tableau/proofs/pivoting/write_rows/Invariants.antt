use Rattle.std.proofs.Common.{◌≡◌, ◌++◌, drop, length, take, Ok}
use Rattle.qm_tableau.specs.Leaving.{next}
use Rattle.qm_tableau.specs.Pivoting.{new_rows}
use Rattle.qm_tableau.proofs.pivoting.write_rows.Given as goal

abbrev pub invariant-loop-i : goal.invariant-loop-i
invariant-loop-i l = record {
  rows : next (new_rows l.col l.leaving l.i (drop l.i l.numbers.rows)) (λ xs. Ok (take l.i l.out.rows ++ xs))
      ≡ new_rows l.col l.leaving 0 l.numbers.rows;
  count : length l.out.rows ≡ length l.fn.out.rows;
  width : l.out.width ≡ l.fn.out.width;
}
