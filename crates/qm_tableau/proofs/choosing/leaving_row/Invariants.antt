use Rattle.std.proofs.Common.{◌≡◌, drop}
use Rattle.qm_tableau.specs.Rule.{leaving_row}
use Rattle.qm_tableau.proofs.choosing.leaving_row.Given as goal

abbrev pub invariant-loop-i : goal.invariant-loop-i
invariant-loop-i l = leaving_row l.i (drop l.i l.numbers.rows) ≡ leaving_row 1 (drop 1 l.numbers.rows)
