use Rattle.qm_legal.proofs.WholeBoxes.{whole_box_asked}
use Rattle.bench_large.proofs.legality.asked_in.Goals as goal

pub ask-requires : goal.ask-requires
ask-requires c = whole_box_asked c.in_ok-game.game c.in_ok-bx.bx c.in_ok-bx.ensures.is_box c.in_ok-bx.ensures.bounds
