use Rattle.std.proofs.Common.{◌<◌, ◌^◌, arith}
use Rattle.qm_certread.proofs.Positions.{position_passed, position_err}
use Rattle.qm_certread.proofs.said.position_said.Goals as goal

pub returns-in-Ok : goal.returns-in-Ok
returns-in-Ok c = position_passed c.args.problem.now c.args.least c.args.word.now c.in-Ok.n c.position_of.result c.in-Ok.ensures c.position_of.ensures

pub returns-in-Err : goal.returns-in-Err
returns-in-Err c =
    let few : c.args.problem.now.wholes < 2 ^ 32 = omega arith in
    position_err c.args.problem.now c.args.least c.args.word.now c.in-Err.field-0 few c.in-Err.ensures
