use Rattle.std.proofs.Common.{◌≡◌, ◌++◌, drop, map}
use Rattle.std.specs.List.{flat_map}
use Rattle.qm_tableau.specs.Quantities.{slack_quantity}
use Rattle.qm_tableau.specs.FirstTable.{first_row}
use Rattle.qm_tableau.proofs.first_rows.push_slacks.Given as goal

abbrev pub invariant-loop-row : goal.invariant-loop-row
invariant-loop-row l =
    l.entries ++ flat_map (first_row l.highs l.values) (map slack_quantity (drop l.row-index l.rows))
    ≡ l.fn.entries ++ flat_map (first_row l.highs l.values) (map slack_quantity l.rows)
