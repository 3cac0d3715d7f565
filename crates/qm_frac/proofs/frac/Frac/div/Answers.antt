use Rattle.qm_frac.proofs.AnswerLaws.{divided_fits, divided_leaves}
use Rattle.qm_frac.proofs.frac.Frac.div.Goals as goal

pub returns-in-Some-clause-answer : goal.returns-in-Some-clause-answer
returns-in-Some-clause-answer c =
    let is = rw c.inverse.ensures at c.in-Some.ensures in
    divided_fits c.args.self c.args.other c.in-Some.quotient is.0 is.1

pub returns-in-None-clause-answer : goal.returns-in-None-clause-answer
returns-in-None-clause-answer c = divided_leaves c.args.self c.args.other (rw c.inverse.ensures at c.in-None.ensures)
