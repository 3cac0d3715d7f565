use Rattle.qm_small.proofs.WrittenLines.{written_small}
use Rattle.qm_small.proofs.laws.written_texts_are_small.Goals as goal

pub returns : goal.returns
returns c = written_small
