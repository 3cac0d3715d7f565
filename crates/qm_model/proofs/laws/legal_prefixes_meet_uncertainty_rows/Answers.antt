use Rattle.qm_model.proofs.UncertaintyRows.{legal_meets_uncertainty}
use Rattle.qm_model.proofs.laws.legal_prefixes_meet_uncertainty_rows.Goals as goal

pub returns : goal.returns
returns c = legal_meets_uncertainty
