use Rattle.qm_trees.proofs.PolicyLines.{right_of_fine, fine_of_right}
use Rattle.qm_trees.proofs.policy_laws.fine_policies_are_right.Goals as goal

pub returns : goal.returns
returns c = λ P v xs depth bx policy scale positive. (
  λ fine. right_of_fine P v scale positive xs depth bx policy fine,
  λ both. fine_of_right P v scale positive xs depth bx policy both.0 both.1,
)
