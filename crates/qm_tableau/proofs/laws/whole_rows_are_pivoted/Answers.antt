use Rattle.qm_tableau.proofs.NoLeaving.{pivot_is}
use Rattle.qm_tableau.proofs.laws.whole_rows_are_pivoted.Goals as goal

pub returns : goal.returns
returns c t rows r col small inside column some = pivot_is t rows r col small inside column some
