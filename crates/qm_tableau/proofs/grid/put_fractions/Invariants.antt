use Rattle.std.proofs.Common.{◌≡◌, ◌+◌, ◌++◌, take, vec_len, vec_capacity}
use Rattle.qm_tableau.specs.Wholes.{fractions_of}
use Rattle.qm_tableau.proofs.grid.put_fractions.Given as goal

abbrev pub invariant-loop-k : goal.invariant-loop-k
invariant-loop-k l = record {
  items : l.out.items ≡ l.fn.out.items ++ take l.k (fractions_of l.row);
  len : vec_len l.out ≡ vec_len l.fn.out + l.k;
  capacity : vec_capacity l.out ≡ vec_capacity l.fn.out;
}
