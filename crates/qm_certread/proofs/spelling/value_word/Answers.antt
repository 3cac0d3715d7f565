use Rattle.std.proofs.Common.{ap, ◌∙◌, Err}
use Rattle.qm_certread.proofs.Decoded.{value_passed, value_err}
use Rattle.qm_certread.proofs.spelling.value_word.Goals as goal

pub returns-in-Ok : goal.returns-in-Ok
returns-in-Ok c = value_passed c.args.word.now c.in-Ok.n c.in-Ok.ensures

pub returns-in-Err : goal.returns-in-Err
returns-in-Err c = ap Err c.fault_of.ensures ∙ value_err c.args.word.now c.in-Err.fault c.in-Err.ensures
