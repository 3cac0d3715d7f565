use Rattle.std.proofs.Common.{rules, ◌≡◌, ◌++◌}
use Rattle.qm_search.proofs.AnswerLaws.{none_worse, one_worse}
use Rattle.qm_search.proofs.answers.Answers.before.Goals as goal

pub returns-in-Some : goal.returns-in-Some
returns-in-Some c = λ P cuts heads rest depth bx W first low middle next proper behind are.
    let appended : c.append.new.self ≡ c.args.self.parts ++ c.args.later.parts = search rules in
    rw appended (one_worse P cuts heads rest depth bx W first low middle next proper c.args.self c.args.later behind are c.in-Some.worst c.in-Some.is)

pub returns-in-None : goal.returns-in-None
returns-in-None c = λ P cuts heads rest depth bx W first low middle next proper behind are.
    let appended : c.append.new.self ≡ c.args.self.parts ++ c.args.later.parts = search rules in
    rw appended (none_worse P cuts heads rest depth bx W first low middle next proper c.args.self c.args.later behind are c.in-None.is)
