use Rattle.qm_math.proofs.Refutes.{combination_refutes}
use Rattle.qm_math.proofs.tables.a_combination_refutes.Goals as goal

pub returns : goal.returns
returns c = combination_refutes
