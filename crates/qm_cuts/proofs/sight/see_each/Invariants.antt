use Rattle.std.proofs.Common.{◌≡◌, ◌-◌, ◌≤◌, drop, length}
use Rattle.qm_trees.specs.CutEntries.{rows_on}
use Rattle.qm_cuts.specs.Steps.{nothing_seen, see_each}
use Rattle.qm_cuts.proofs.sight.see_each.Given as goal

abbrev pub invariant-loop-var : goal.invariant-loop-var
invariant-loop-var l = record {
  within : l.var ≤ length l.problem.vars;
  from_here : see_each (rows_on l.problem l.earlier l.entries) l.var (drop l.var l.problem.vars) l.seen ≡ see_each (rows_on l.problem l.earlier l.entries) 0 l.problem.vars nothing_seen;
}

abbrev pub decreases-loop-var : goal.decreases-loop-var
decreases-loop-var l = length l.problem.vars - l.var
