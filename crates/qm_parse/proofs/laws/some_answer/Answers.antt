use Rattle.qm_parse.proofs.SomeAnswer.{some_answer}
use Rattle.qm_parse.proofs.laws.some_answer.Goals as goal

pub returns : goal.returns
returns c = some_answer
