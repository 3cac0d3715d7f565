use Rattle.qm_text.proofs.Spellings.{decimal_one}
use Rattle.qm_text.proofs.laws.one_decimal_a_word.Goals as goal

pub returns : goal.returns
returns c = decimal_one
