use Rattle.qm_normal.proofs.StatedBounds.{stated_near, stated_sound}
use Rattle.qm_normal.proofs.laws.stated_problems_are_in_order.Goals as goal

pub returns : goal.returns
returns c = record { sound = stated_sound; near = stated_near }
