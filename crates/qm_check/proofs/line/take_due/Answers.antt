use Rattle.std.proofs.Common.{◌∙◌}
use Rattle.std.proofs.lemmas.Result.{on_ok_weaker}
use Rattle.qm_check.specs.Walks.{tasks_of}
use Rattle.qm_check.proofs.Judgements.{part_behind, part_judged}
use Rattle.qm_check.proofs.line.take_due.Goals as goal

pub returns-in-Line-clause-judged : goal.returns-in-Line-clause-judged
returns-in-Line-clause-judged c = rw c.in-Line.is (c.take_plain.ensures c.args.game.now)

pub returns-in-Open-clause-judged : goal.returns-in-Open-clause-judged
returns-in-Open-clause-judged c =
    let next = rw c.in-Open.is at c.requires.next in
    rw c.in-Open.is (part_judged c.args.game.now c.in-Open.node c.args.walk.now.bx (tasks_of c.args.walk.now) c.args.line.now next c.take_part.result c.take_part.ensures.judged)

pub returns-in-Open-clause-due : goal.returns-in-Open-clause-due
returns-in-Open-clause-due c =
    let next = rw c.in-Open.is at c.requires.next in
    rw c.in-Open.is
    (on_ok_weaker c.take_part.result (λ e. e ∙ part_behind c.args.game.now c.in-Open.node c.args.walk.now.bx (tasks_of c.args.walk.now) c.args.line.now next) c.take_part.ensures.due)
