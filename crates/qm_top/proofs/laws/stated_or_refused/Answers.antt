use Rattle.qm_top.proofs.Refusals.{not_refused, one_refusal, stated_or_refused}
use Rattle.qm_top.proofs.laws.stated_or_refused.Goals as goal

pub returns-clause-some : goal.returns-clause-some
returns-clause-some c = stated_or_refused

pub returns-clause-not_both : goal.returns-clause-not_both
returns-clause-not_both c = not_refused c.one_decimal_a_word.ensures

pub returns-clause-once : goal.returns-clause-once
returns-clause-once c = one_refusal c.one_decimal_a_word.ensures
