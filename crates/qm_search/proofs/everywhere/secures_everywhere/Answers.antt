use Rattle.qm_search.proofs.everywhere.secures_everywhere.Goals as goal
use Rattle.qm_legal.proofs.Places.{some_next}
use Rattle.qm_model.specs.declared.variable.Player.TheVariants.{All as Universal}

pub range-range-requires-clause-some : goal.range-range-requires-clause-some
range-range-requires-clause-some c = some_next Universal c.args.here.rest.now c.requires.player
