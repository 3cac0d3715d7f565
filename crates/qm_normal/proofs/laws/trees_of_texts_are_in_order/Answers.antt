use Rattle.qm_normal.proofs.TreesOfTexts.{parsed_in_order}
use Rattle.qm_normal.proofs.laws.trees_of_texts_are_in_order.Goals as goal

pub returns : goal.returns
returns c = parsed_in_order
