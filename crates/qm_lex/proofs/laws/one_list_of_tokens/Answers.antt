use Rattle.qm_lex.proofs.Reached.{one_list}
use Rattle.qm_lex.proofs.laws.one_list_of_tokens.Goals as goal

pub returns : goal.returns
returns c = one_list
