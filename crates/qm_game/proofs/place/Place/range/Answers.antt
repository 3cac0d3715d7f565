use Rattle.qm_game.proofs.NextVariables.{next_in_box}
use Rattle.qm_game.proofs.place.Place.range.Goals as goal

pub range_in-requires : goal.range_in-requires
range_in-requires c = rw c.as_slice.ensures (next_in_box c.args.self.game.now c.args.self.rest.now c.args.self.depth c.args.bx.now c.args.self.from_depth c.requires.some c.requires.bx)
