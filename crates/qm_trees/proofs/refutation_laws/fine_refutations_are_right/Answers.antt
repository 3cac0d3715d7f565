use Rattle.qm_trees.proofs.RefutationLines.{right_of_fine, fine_of_right}
use Rattle.qm_trees.proofs.refutation_laws.fine_refutations_are_right.Goals as goal

pub returns : goal.returns
returns c = λ P cuts heads G xs depth bx tree scale proper. (
  λ fine. right_of_fine P cuts G scale proper heads xs depth bx tree fine,
  λ both. fine_of_right P cuts G scale proper heads xs depth bx tree both.0 both.1,
)
