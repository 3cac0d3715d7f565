use Rattle.qm_cuts.proofs.Holding.{cut_holds}
use Rattle.qm_cuts.proofs.laws.whole_points_keep_cuts.Goals as goal

pub returns : goal.returns
returns c P earlier es cut prefix y sound begin complete meets urows cuts is_cut = cut_holds P earlier es cut prefix y sound begin complete meets urows cuts is_cut
