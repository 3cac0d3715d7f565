use Rattle.std.proofs.Common.{◌≡◌, ◌-◌, ◌≤◌, drop, length, true}
use Rattle.qm_trees.specs.CutEntries.{rows_on}
use Rattle.qm_cuts.specs.Steps.{fit_each}
use Rattle.qm_cuts.proofs.tested.fit_each.Given as goal

abbrev pub invariant-loop-var : goal.invariant-loop-var
invariant-loop-var l = record {
  within : l.var ≤ length l.problem.vars;
  from_here : fit_each (rows_on l.problem l.earlier l.entries) l.terms l.var (drop l.var l.problem.vars) l.fit ≡ fit_each (rows_on l.problem l.earlier l.entries) l.terms 0 l.problem.vars true;
}

abbrev pub decreases-loop-var : goal.decreases-loop-var
decreases-loop-var l = length l.problem.vars - l.var
