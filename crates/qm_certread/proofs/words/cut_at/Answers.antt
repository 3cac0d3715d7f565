use Rattle.std.proofs.Common.{refl}
use Rattle.qm_certread.proofs.Cuts.{parted_there, unparted}
use Rattle.qm_certread.proofs.words.cut_at.Goals as goal

pub returns-in-Some : goal.returns-in-Some
returns-in-Some c = parted_there c.args.mark c.args.word.now c.in-Some.at _ _ c.in-Some.ensures refl refl

pub returns-in-None : goal.returns-in-None
returns-in-None c = unparted c.args.mark c.args.word.now c.in-None.ensures
