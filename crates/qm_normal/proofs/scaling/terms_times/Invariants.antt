use Rattle.std.proofs.Common.{◌≡◌, ◌<◌, ◌^◌, ◌++◌, drop, map, take, unsigned_abs}
use Rattle.std.specs.Prelude.{All}
use Rattle.qm_normal.specs.Rows.{nonzero_from, times}
use Rattle.qm_normal.proofs.scaling.terms_times.Given as goal

abbrev pub invariant-loop-var : goal.invariant-loop-var
invariant-loop-var l = record {
  items : l.items.items ++ nonzero_from l.var (map (times l.d) (drop l.var l.sums)) ≡ nonzero_from 0 (map (times l.d) l.sums);
  narrow : All (λ sum. unsigned_abs (times l.d sum) < 2 ^ 127) (take l.var l.sums);
}
