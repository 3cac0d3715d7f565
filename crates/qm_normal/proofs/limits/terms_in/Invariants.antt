use Rattle.std.proofs.Common.{◌≡◌, ◌≤◌, ◌*◌, ◌^◌, take}
use Rattle.qm_normal.specs.Limits.{terms_in}
use Rattle.qm_normal.proofs.limits.terms_in.Given as goal

abbrev pub invariant-loop-row : goal.invariant-loop-row
invariant-loop-row l = record {
  count : l.count ≡ terms_in (take l.row-index l.rows);
  few : l.count ≤ l.row-index * 2 ^ 32;
}
