use Rattle.qm_trees.proofs.SmallerValues.{right_at_less, in_range_at}
use Rattle.qm_trees.proofs.policy_laws.right_policies_are_right_at_less.Goals as goal

pub returns : goal.returns
returns c = record {
  right = λ P v w xs depth bx policy positive less right. right_at_less P v w positive less xs depth bx policy right;
  in_range = λ P v w xs depth bx policy range. in_range_at P v w xs depth bx policy range;
}
