use Rattle.std.proofs.Common.{refl}
use Rattle.qm_top.specs.Answers.{claimed, left, spent}
use Rattle.qm_top.proofs.Checked.{claims_of}
use Rattle.qm_top.proofs.solve.solve_game.Goals as goal

pub returns-in_ok-write-in-Ok : goal.returns-in_ok-write-in-Ok
returns-in_ok-write-in-Ok c =
    let sound = rw c.problem-problem.ensures.value at c.problem-problem.ensures.sound in
    claimed (claims_of c.args.game.now c.in-Ok.solved.certificate c.in_ok-write-in-Ok.field-0 sound c.in-Ok.ensures.solved.passes c.in_ok-write-in-Ok.ensures) refl

pub returns-in-Err-Spent : goal.returns-in-Err-Spent
returns-in-Err-Spent c =
    let fault = rw c.in-Err-Spent.field-0-is at c.in-Err-Spent.ensures.fault in
    spent c.in-Err-Spent.journal.entries fault.spends refl refl

pub returns-in_ok-leave_text-in-Err-Leave : goal.returns-in_ok-leave_text-in-Err-Leave
returns-in_ok-leave_text-in-Err-Leave c =
    left c.in-Err-Leave.leave (rw c.in-Err-Leave.field-0-is at c.in-Err-Leave.ensures.fault) refl c.in_ok-leave_text-in-Err-Leave.ensures
