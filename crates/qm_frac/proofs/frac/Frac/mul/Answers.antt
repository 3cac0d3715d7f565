use Rattle.qm_frac.proofs.AnswerLaws.{multiplied_fits, multiplied_leaves}
use Rattle.qm_frac.proofs.frac.Frac.mul.Goals as goal

pub returns-in-Some-clause-answer : goal.returns-in-Some-clause-answer
returns-in-Some-clause-answer c = multiplied_fits c.args.self c.args.other c.in-Some.product c.in-Some.ensures.0 c.in-Some.ensures.1

pub returns-in-None-clause-answer : goal.returns-in-None-clause-answer
returns-in-None-clause-answer c = multiplied_leaves c.args.self c.args.other c.in-None.ensures
