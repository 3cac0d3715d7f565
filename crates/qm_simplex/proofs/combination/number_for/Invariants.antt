use Rattle.std.proofs.Common.{◌≡◌, drop}
use Rattle.qm_tableau.specs.Tables.{row_at}
use Rattle.qm_simplex.specs.Multipliers.{number_for}
use Rattle.qm_simplex.proofs.combination.number_for.Given as goal

-- the number is among those of the columns that are left
abbrev pub invariant-loop-k : goal.invariant-loop-k
invariant-loop-k l =
    let numbers = drop 1 (row_at l.tableau.rows l.row) in
    number_for l.i (drop l.k l.tableau.columns) (drop l.k numbers) ≡ number_for l.i l.tableau.columns numbers
