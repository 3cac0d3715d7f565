use Rattle.qm_frac.proofs.AnswerLaws.{subtracted_fits, subtracted_leaves}
use Rattle.qm_frac.proofs.frac.Frac.sub.Goals as goal

pub returns-in-Some-clause-answer : goal.returns-in-Some-clause-answer
returns-in-Some-clause-answer c =
    let is = rw c.neg.ensures at c.in-Some.ensures in
    subtracted_fits c.args.self c.args.other c.in-Some.difference is.0 is.1

pub returns-in-None-clause-answer : goal.returns-in-None-clause-answer
returns-in-None-clause-answer c = subtracted_leaves c.args.self c.args.other (rw c.neg.ensures at c.in-None.ensures)
