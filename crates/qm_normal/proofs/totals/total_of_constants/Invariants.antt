use Rattle.std.proofs.Common.{◌≡◌, drop, map}
use Rattle.std.specs.Result.{result_ok}
use Rattle.qm_normal.specs.Rows.{is_constant, total, total_from}
use Rattle.qm_normal.specs.SumSteps.{maximised_term}
use Rattle.qm_normal.proofs.totals.total_of_constants.Given as goal

abbrev pub invariant-loop-term : goal.invariant-loop-term
invariant-loop-term l = result_ok (total_from is_constant (drop l.term-index (map (maximised_term l.sense) l.terms)) l.sum) ≡ result_ok (total is_constant (map (maximised_term l.sense) l.terms))
