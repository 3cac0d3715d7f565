use Rattle.std.proofs.Common.{◌≡◌, ◌++◌, drop}
use Rattle.qm_tableau.specs.FirstTable.{columns_from}
use Rattle.qm_tableau.proofs.beginning.columns.Given as goal

abbrev pub invariant-loop-var : goal.invariant-loop-var
invariant-loop-var l = l.columns ++ columns_from l.var (drop l.var l.highs) ≡ columns_from 0 l.highs
