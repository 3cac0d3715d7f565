use Rattle.qm_trees.proofs.EmptyLines.{right_of_fine, fine_of_right}
use Rattle.qm_trees.proofs.empty_laws.fine_empty_trees_are_right.Goals as goal

pub returns : goal.returns
returns c = λ P xs depth bx tree. (
  λ fine. right_of_fine P xs depth bx tree fine,
  λ both. fine_of_right P xs depth bx tree both.0 both.1,
)
