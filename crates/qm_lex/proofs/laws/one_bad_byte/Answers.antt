use Rattle.qm_lex.proofs.Reached.{one_bad}
use Rattle.qm_lex.proofs.laws.one_bad_byte.Goals as goal

pub returns : goal.returns
returns c = one_bad
