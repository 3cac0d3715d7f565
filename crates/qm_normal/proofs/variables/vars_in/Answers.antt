use Rattle.std.proofs.Common.{arith}
use Rattle.qm_normal.proofs.variables.vars_in.Goals as goal

pub var_of-requires : goal.var_of-requires
var_of-requires c = c.requires c.loop-named.named-index _ (omega arith)
