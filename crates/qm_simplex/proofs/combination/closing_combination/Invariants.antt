use Rattle.std.proofs.Common.{◌≡◌, ◌+◌, length}
use Rattle.qm_simplex.specs.Multipliers.{entries_below, multiplier, slack_name, slacks_start}
use Rattle.qm_simplex.proofs.combination.closing_combination.Given as goal

-- the entries of the slacks so far
abbrev pub invariant-loop-n : goal.invariant-loop-n
invariant-loop-n l = l.combo ≡ record {
  objective = l.objective;
  entries = entries_below (slack_name (length l.problem.rows) (length l.problem.urows)) (λ n. multiplier l.tableau l.row (slacks_start l.bx + n)) l.n;
}
