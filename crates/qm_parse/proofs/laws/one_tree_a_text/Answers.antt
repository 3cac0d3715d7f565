use Rattle.qm_parse.proofs.ReadTexts.{trees_same}
use Rattle.qm_parse.proofs.laws.one_tree_a_text.Goals as goal

pub returns : goal.returns
returns c = trees_same
