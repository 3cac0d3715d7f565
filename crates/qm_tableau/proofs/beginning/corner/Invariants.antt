use Rattle.std.proofs.Common.{◌≡◌, ◌++◌, drop}
use Rattle.qm_tableau.specs.FirstTable.{corner}
use Rattle.qm_tableau.proofs.beginning.corner.Given as goal

abbrev pub invariant-loop-var : goal.invariant-loop-var
invariant-loop-var l = l.values ++ corner (drop l.var l.highs) (drop l.var l.bx) ≡ corner l.highs l.bx
