use Rattle.qm_frac.proofs.AnswerLaws.{added_fits, added_leaves}
use Rattle.qm_frac.proofs.frac.Frac.add.Goals as goal

pub returns-in-Some-clause-answer : goal.returns-in-Some-clause-answer
returns-in-Some-clause-answer c = added_fits c.args.self c.args.other c.in-Some.sum c.in-Some.ensures.0 c.in-Some.ensures.1

pub returns-in-None-clause-answer : goal.returns-in-None-clause-answer
returns-in-None-clause-answer c = added_leaves c.args.self c.args.other c.in-None.ensures
