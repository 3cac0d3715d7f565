use Rattle.qm_check.specs.Walks.{tasks_of}
use Rattle.qm_check.proofs.Judgements.{line_fault, line_took}
use Rattle.qm_check.proofs.text.take_next.Goals as goal

pub returns-in-Ok-take_line-clause-some : goal.returns-in-Ok-take_line-clause-some
returns-in-Ok-take_line-clause-some c =
    let next = c.in-Ok.ensures.ok in
    line_took c.args.game.now c.args.text.now c.args.walk.now c.take_line.new.walk c.args.cursor.now c.next_line.new.cursor c.in-Ok.line.now c.requires.place next.0 next.1
    c.in-Ok-take_line.ensures.stays c.in-Ok-take_line.ensures.judged c.in-Ok-take_line.ensures.due

pub returns-in-Err-take_line-clause-err : goal.returns-in-Err-take_line-clause-err
returns-in-Err-take_line-clause-err c =
    let next = c.in-Ok.ensures.ok in
    rw c.fault_at.ensures
    (line_fault c.args.game.now c.args.text.now c.args.cursor.now c.next_line.new.cursor c.in-Ok.line.now (tasks_of c.args.walk.now) next.0 c.in-Err-take_line.fault c.in-Err-take_line.ensures.judged)
