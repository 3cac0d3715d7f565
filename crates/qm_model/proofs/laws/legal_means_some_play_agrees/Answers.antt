use Rattle.qm_model.proofs.Legality.{play_of_legal, legal_of_play}
use Rattle.qm_model.proofs.laws.legal_means_some_play_agrees.Goals as goal

pub returns : goal.returns
returns c = λ P prefix. (play_of_legal P prefix, legal_of_play P prefix)
