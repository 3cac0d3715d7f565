use Rattle.std.proofs.Common.{◌≡◌, drop, length, map}
use Rattle.std.specs.Result.{result_ok}
use Rattle.qm_normal.specs.Rows.{totals}
use Rattle.qm_normal.specs.SumSteps.{maximised_term}
use Rattle.qm_normal.proofs.SumsSoFar.{onto}
use Rattle.qm_normal.proofs.totals.totals.Given as goal

abbrev pub invariant-loop-term : goal.invariant-loop-term
invariant-loop-term l = record {
  sums : onto l.order l.sums.items (drop l.term-index (map (maximised_term l.sense) l.terms)) ≡ result_ok (totals l.order (map (maximised_term l.sense) l.terms));
  count : length l.sums.items ≡ length l.order;
}
