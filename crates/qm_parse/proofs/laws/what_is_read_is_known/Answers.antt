use Rattle.qm_parse.proofs.KnownReading.{below-read}
use Rattle.qm_parse.proofs.laws.what_is_read_is_known.Goals as goal

pub returns : goal.returns
returns c = below-read
