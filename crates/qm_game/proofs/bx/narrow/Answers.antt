use Rattle.qm_model.proofs.BoxLaws.{IsBox-set}
use Rattle.qm_game.proofs.bx.narrow.Goals as goal

pub returns-clause-stays_box : goal.returns-clause-stays_box
returns-clause-stays_box c vars box = rw c.put.ensures (IsBox-set vars c.args.bx.now c.args.var c.args.to box c.requires.inside)
