use Rattle.std.proofs.Common.{[]}
use Rattle.qm_cuts.proofs.Derivations.{cuts_more}
use Rattle.qm_cuts.proofs.derivation.add.Goals as goal

pub returns-clause-cuts : goal.returns-clause-cuts
returns-clause-cuts c = rw c.in_ok-push.ensures.ok (cuts_more c.args.game.now [] c.args.pool.now c.args.combo c.in_ok-row.row c.requires.cuts c.in_ok-row.ensures.cut)
