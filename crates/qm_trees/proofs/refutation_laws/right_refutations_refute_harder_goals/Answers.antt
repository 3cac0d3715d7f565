use Rattle.qm_trees.proofs.HarderGoals.{right_at_harder, in_range_at_harder}
use Rattle.qm_trees.proofs.refutation_laws.right_refutations_refute_harder_goals.Goals as goal

pub returns : goal.returns
returns c = record {
  right = λ P cuts heads G H xs depth bx tree scale proper proper' order right. right_at_harder P cuts heads G H scale proper proper' order xs depth bx tree right;
  in_range = λ P cuts heads G H xs depth bx tree range. in_range_at_harder P cuts heads G H xs depth bx tree range;
}
