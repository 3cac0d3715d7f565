use Rattle.qm_normal.proofs.NormalSound.{normal-sound}
use Rattle.qm_normal.proofs.laws.normal_forms_are_sound.Goals as goal

pub returns : goal.returns
returns c = normal-sound
