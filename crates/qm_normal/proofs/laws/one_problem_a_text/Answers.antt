use Rattle.qm_normal.proofs.StatedOnce.{one_problem}
use Rattle.qm_normal.proofs.laws.one_problem_a_text.Goals as goal

pub returns : goal.returns
returns c = one_problem c.one_decimal_a_word.ensures
