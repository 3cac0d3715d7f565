use Rattle.std.proofs.Common.{rules, ◌≡◌, ◌++◌}
use Rattle.qm_search.proofs.ChoiceLaws.{none_better, one_better}
use Rattle.qm_search.proofs.choices.Choices.before.Goals as goal

pub returns-in-Some : goal.returns-in-Some
returns-in-Some c = λ P cuts heads rest depth bx W low middle next scale proper behind are.
    let appended : c.append.new.self ≡ c.args.self.parts ++ c.args.later.parts = search rules in
    rw appended (one_better P cuts heads rest depth bx W scale proper low middle next c.args.self c.args.later behind are c.in-Some.best c.in-Some.is)

pub returns-in-None : goal.returns-in-None
returns-in-None c = λ P cuts heads rest depth bx W low middle next scale proper behind are.
    let appended : c.append.new.self ≡ c.args.self.parts ++ c.args.later.parts = search rules in
    rw appended (none_better P cuts heads rest depth bx W scale proper low middle next c.args.self c.args.later behind are c.in-None.is)
