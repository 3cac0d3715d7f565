use Rattle.qm_parse.proofs.ReadTexts.{text_reads}
use Rattle.qm_parse.proofs.laws.a_text_is_read.Goals as goal

pub returns : goal.returns
returns c = text_reads
