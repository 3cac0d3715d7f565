use Rattle.std.proofs.Common.{◌≡◌, ◌++◌, drop}
use Rattle.std.specs.List.{flat_map}
use Rattle.qm_tableau.specs.Quantities.{bound_quantities}
use Rattle.qm_tableau.specs.FirstTable.{first_row}
use Rattle.qm_tableau.proofs.first_rows.push_bounds.Given as goal

abbrev pub invariant-loop-var : goal.invariant-loop-var
invariant-loop-var l =
    l.entries ++ flat_map (first_row l.highs l.values) (bound_quantities l.var (drop l.var l.bx))
    ≡ l.fn.entries ++ flat_map (first_row l.highs l.values) (bound_quantities 0 l.bx)
