use Rattle.qm_parse.proofs.OneAnswer.{answers-same}
use Rattle.qm_parse.proofs.laws.one_answer.Goals as goal

pub returns : goal.returns
returns c = answers-same c.one_decimal_a_word.ensures
