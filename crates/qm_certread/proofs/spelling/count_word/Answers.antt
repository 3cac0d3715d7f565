use Rattle.std.proofs.Common.{ap, ◌∙◌, Err}
use Rattle.qm_certread.proofs.Decoded.{count_passed, count_err}
use Rattle.qm_certread.proofs.spelling.count_word.Goals as goal

pub returns-in-Ok : goal.returns-in-Ok
returns-in-Ok c = count_passed c.args.word.now c.in-Ok.n c.count_of.result c.in-Ok.ensures c.count_of.ensures

pub returns-in-Err : goal.returns-in-Err
returns-in-Err c = ap Err c.fault_of.ensures ∙ count_err c.args.word.now c.in-Err.fault c.in-Err.ensures
