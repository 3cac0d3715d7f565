use Rattle.std.proofs.Common.{◌≡◌, ◌<◌, ◌≤◌, ◌<ℤ◌, drop, pos}
use Rattle.std.specs.Prelude.{IfSome, None}
use Rattle.qm_tableau.specs.Tables.{entry_at, row_at}
use Rattle.qm_tableau.specs.Rule.{entering_column}
use Rattle.qm_tableau.proofs.choosing.entering_column.Given as goal

abbrev pub invariant-loop-k : goal.invariant-loop-k
invariant-loop-k l =
    let leaving = row_at l.numbers.rows l.row in
    record {
      answer : entering_column l.numbers.rows leaving l.k l.best (drop l.k leaving) ≡ entering_column l.numbers.rows leaving 1 None (drop 1 leaving);
      best : IfSome l.best (λ b. (1 ≤ b) × (b < l.numbers.width) × (pos 0 <ℤ (entry_at l.numbers.rows l.row b).num));
    }
