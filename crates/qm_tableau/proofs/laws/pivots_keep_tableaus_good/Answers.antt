use Rattle.qm_tableau.proofs.PivotGood.{pivot_good}
use Rattle.qm_tableau.proofs.laws.pivots_keep_tableaus_good.Goals as goal

pub returns-clause-good : goal.returns-clause-good
returns-clause-good c = pivot_good
