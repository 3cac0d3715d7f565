use Rattle.std.proofs.Common.{◌∙◌}
use Rattle.qm_frac.proofs.SignLaws.{unwrap}
use Rattle.qm_policy.proofs.Steps.{lowest_whole, whole_in_range}
use Rattle.qm_policy.proofs.fractions.whole.Goals as goal

pub returns-in-Some : goal.returns-in-Some
returns-in-Some c =
    let same = unwrap c.args.n c.requires in
    let is = rw same at c.in-Some.ensures.1 in
    is ∙ lowest_whole c.args.n

pub returns-in-None : goal.returns-in-None
returns-in-None c =
    let same = unwrap c.args.n c.requires in
    let out = rw same at c.in-None.ensures in
    absurd (out (whole_in_range c.args.n c.requires))
