use Rattle.qm_cuts.proofs.Deriving.{derivation_is_cut}
use Rattle.qm_cuts.proofs.laws.derivations_give_cuts.Goals as goal

pub returns : goal.returns
returns c P earlier entries row sound are gives = derivation_is_cut P earlier entries row sound are gives
