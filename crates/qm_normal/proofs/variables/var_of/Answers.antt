use Rattle.qm_normal.specs.TableSteps.{high_by, low_by, whole_by}
use Rattle.qm_normal.proofs.NearEnds.{near_high, near_low}
use Rattle.qm_normal.proofs.variables.var_of.Goals as goal

pub near_low-requires : goal.near_low-requires
near_low-requires c =
    near_low (whole_by c.args.roles.now c.args.named.name) (low_by c.args.roles.now c.args.ends.now c.args.named.name) (high_by c.args.roles.now c.args.ends.now c.args.named.name) c.requires

pub near_high-requires : goal.near_high-requires
near_high-requires c =
    near_high (whole_by c.args.roles.now c.args.named.name) (low_by c.args.roles.now c.args.ends.now c.args.named.name) (high_by c.args.roles.now c.args.ends.now c.args.named.name) c.requires
