use Rattle.std.proofs.Common.{◌≡◌, ◌++◌, drop, length, take, set, Ok}
use Rattle.qm_tableau.specs.Tables.{row_at}
use Rattle.qm_tableau.specs.Leaving.{next}
use Rattle.qm_tableau.specs.Pivoting.{new_entries}
use Rattle.qm_tableau.proofs.pivoting.write_row.Given as goal

abbrev pub invariant-loop-k : goal.invariant-loop-k
invariant-loop-k l = record {
  row : next (new_entries l.i l.col l.factor l.k (drop l.k l.row) (drop l.k l.leaving)) (λ xs. Ok (take l.k (row_at l.out.rows l.i) ++ xs))
      ≡ new_entries l.i l.col l.factor 0 l.row l.leaving;
  others : l.out.rows ≡ set l.fn.out.rows l.i (row_at l.out.rows l.i);
  here : length (row_at l.out.rows l.i) ≡ l.fn.out.width;
  width : l.out.width ≡ l.fn.out.width;
}
