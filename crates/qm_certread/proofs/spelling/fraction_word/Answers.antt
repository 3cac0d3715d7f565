use Rattle.std.proofs.Common.{ap, ◌∙◌, Err}
use Rattle.qm_certread.proofs.Quotients.{fraction_ok, fraction_err}
use Rattle.qm_certread.proofs.spelling.fraction_word.Goals as goal

pub returns-in-Ok : goal.returns-in-Ok
returns-in-Ok c = fraction_ok c.args.word.now c.in-Ok.a c.in-Ok.ensures

pub returns-in-Err : goal.returns-in-Err
returns-in-Err c = ap Err c.fault_of.ensures ∙ fraction_err c.args.word.now c.in-Err.fault c.in-Err.ensures
