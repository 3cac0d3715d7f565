use Rattle.qm_parse.proofs.WrittenTexts.{text_read}
use Rattle.qm_parse.proofs.laws.what_is_read_is_written.Goals as goal

pub returns : goal.returns
returns c = text_read
