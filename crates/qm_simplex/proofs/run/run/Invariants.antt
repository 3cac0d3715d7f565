use Rattle.std.proofs.Common.{◌-◌, ◌^◌, length}
use Rattle.qm_simplex.specs.Runs.{Leads}
use Rattle.qm_simplex.proofs.run.run.Given as goal

-- the pivots so far lead to the tableau
abbrev pub invariant-loop-ending : goal.invariant-loop-ending
invariant-loop-ending l = Leads l.fn.tableau l.pivots l.tableau

-- a list has less than 2 ^ 64 items
abbrev pub decreases-loop-ending : goal.decreases-loop-ending
decreases-loop-ending l = 2 ^ 64 - length l.pivots
