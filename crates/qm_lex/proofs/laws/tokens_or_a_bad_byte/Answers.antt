use Rattle.qm_lex.proofs.Every.{one_of_both}
use Rattle.qm_lex.proofs.Reached.{tokens_have_no_bad_byte}
use Rattle.qm_lex.proofs.laws.tokens_or_a_bad_byte.Goals as goal

pub returns-clause-some : goal.returns-clause-some
returns-clause-some c = one_of_both

pub returns-clause-not_both : goal.returns-clause-not_both
returns-clause-not_both c = tokens_have_no_bad_byte
