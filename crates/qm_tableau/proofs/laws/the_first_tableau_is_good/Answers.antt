use Rattle.qm_tableau.proofs.FirstGood.{first_good}
use Rattle.qm_tableau.proofs.laws.the_first_tableau_is_good.Goals as goal

pub returns : goal.returns
returns c = first_good
