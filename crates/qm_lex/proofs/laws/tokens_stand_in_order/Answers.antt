use Rattle.qm_lex.proofs.Every.{in_order}
use Rattle.qm_lex.proofs.laws.tokens_stand_in_order.Goals as goal

pub returns : goal.returns
returns c = in_order
