use Rattle.std.proofs.Common.{◌+◌, arith}
use Rattle.qm_cover.proofs.PartSteps.{at_end-is_last_before}
use Rattle.qm_cover.proofs.parts.is_last.Goals as goal

pub returns : goal.returns
returns g c = at_end-is_last_before c.args.parts.now (c.args.at + 1) (omega (arith, c.requires))
