use Rattle.std.proofs.Common.{arith}
use Rattle.qm_text.proofs.Powers.{small_power, large_power}
use Rattle.qm_text.proofs.significant.ten_to.Goals as goal

pub pow-requires : goal.pow-requires
pow-requires c = let small = small_power c.args.power c.if-power-gt38.false in omega arith

pub returns-then-power-gt38 : goal.returns-then-power-gt38
returns-then-power-gt38 c = let large = large_power c.args.power c.if-power-gt38.true in omega arith
