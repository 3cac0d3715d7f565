use Rattle.qm_game.proofs.NextVariables.{next_in_box}
use Rattle.qm_game.proofs.place.Place.put.Goals as goal

pub set-requires : goal.set-requires
set-requires c = next_in_box c.args.self.game.now c.args.self.rest.now c.args.self.depth c.args.bx.now c.args.self.from_depth c.requires.some c.requires.bx
