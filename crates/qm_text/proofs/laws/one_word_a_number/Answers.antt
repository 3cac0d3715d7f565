use Rattle.qm_text.proofs.Written.{narrow_written, fraction_written}
use Rattle.qm_text.proofs.laws.one_word_a_number.Goals as goal

pub returns : goal.returns
returns c = record { whole = narrow_written; fraction = fraction_written }
