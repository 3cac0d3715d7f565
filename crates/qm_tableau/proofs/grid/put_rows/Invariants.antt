use Rattle.std.proofs.Common.{◌≡◌, ◌+◌, ◌*◌, ◌≤◌, length, map, take}
use Rattle.qm_tableau.specs.Wholes.{fractions_of}
use Rattle.qm_tableau.proofs.grid.put_rows.Given as goal

abbrev pub invariant-loop-i : goal.invariant-loop-i
invariant-loop-i l = record {
  rows : l.out.rows ≡ map fractions_of (take l.i l.numbers.rows);
  width : l.out.width ≡ l.fn.out.width;
  room : length l.numbers.rows * l.fn.out.width ≤ l.i * l.fn.out.width + l.out.spare;
}
