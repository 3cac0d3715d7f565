use Rattle.std.proofs.Common.{◌≡◌, ◌*◌, ◌∷◌, length, map, pos, suc, take}
use Rattle.qm_tableau.specs.Tables.{rows_of}
use Rattle.qm_tableau.proofs.wholes.over_ones.Given as goal

abbrev pub invariant-loop-i : goal.invariant-loop-i
invariant-loop-i l = record {
  rows : rows_of (suc l.width) l.i l.out.items ≡ map (λ row. pos 1 ∷ row) (take l.i (rows_of l.width l.height l.numbers));
  count : length l.out.items ≡ l.i * suc l.width;
}
